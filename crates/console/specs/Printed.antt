-- What the program prints for a file and an input. No contract can say that it does: the stored runs and tests/desk hold it to this.
-- Assumes nothing.
use Rattle.std.specs.Prelude.{List, [], ◌++◌, ℕ, replicate}
use Rattle.refusals.specs.Answers.{Answer, accepted, refused}
use Rattle.timetable.specs.Check.{max_connections}
use Rattle.timetable.specs.declared.Counts.{Counts}
use Rattle.model.specs.Notices.{notices_length}
use Rattle.model.specs.Day.{day_of, lent}
use Rattle.model.specs.Drawn.{most_graph}
use Rattle.model.specs.Operations.{built}
use Rattle.input.specs.Lines.{commands_of}
use Rattle.lines.specs.Lines.{text_of}
use Rattle.written_replies.specs.Replies.{line_of, say_counts}
use Rattle.turns.specs.Turns.{state}
use Rattle.dialogue.specs.Talks.{Talk, talk}

-- what is said after a building's line: nothing if the timetable is refused
abbrev pub afterwards : Answer Counts → Talk → List ℕ
afterwards (accepted v) t = t.text
afterwards (refused n p) t = []

-- the building's line, on cleared areas, and the dialogue of the input's commands
unfoldable pub printed : List ℕ → List ℕ → List ℕ
printed file input =
    let day = day_of file in
    let o = built day (lent (replicate notices_length 0) (replicate most_graph 0)) in
    let s = state o.areas (replicate max_connections 0) (replicate max_connections 0) in
    text_of (line_of say_counts o.answer) ++ afterwards o.answer (talk day s (commands_of input))
