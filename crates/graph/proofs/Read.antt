-- What a network's own facts say of its timetable and its graph area. Assumes nothing.
use Rattle.model.specs.Shown.{Readable}
use Rattle.graph.specs.declared.Network.{Network}

-- they can be read
pub readable : (n : Network) → Readable n.shown.timetable.file.now n.shown.graph.now
readable n = record { timetable = n.shown.timetable.opened.timetable; sound = n.shown.sound; drawn = n.drawn }
