-- The times stand at the front, and then the lists behind them. Assumes nothing.
use Rattle.std.proofs.Common.{◌≡◌, ℕ, ◌*◌, ◌≤◌, List, ◌++◌, length, drop, ap, ◌∙◌, arith, length-append, length-drop}
use Rattle.model.specs.Drawn.{graph_length}
use Rattle.model.proofs.GraphArea.{length_times}
use Rattle.drawing.proofs.Splice.{front_taken}
use Rattle.boards.proofs.Timed.{timed, graph_by_times}
use Rattle.drawing.proofs.Drawing.{drawn_over}
use Rattle.drawing.proofs.fill_graph.Goals as goal

-- after the times are put
pub put_lists-requires : goal.put_lists-requires
put_lists-requires c =
    let t = c.args.outlook.timetable in
    let g = c.args.graph.now in
    let front = ap (λ (area : List ℕ). area ++ drop (2 * t.connections) g) c.expected_times.ensures in
    let taken = front_taken _ g _ (2 * t.connections) (length_times _ t.connections) front in
    let long : graph_length t.file.now ≤ length (c.expected_times.new.area ++ drop (2 * t.connections) g) =
    rw (length-append, length-drop) (omega (arith, ap (λ (area : List ℕ). length area) c.expected_times.ensures ∙ length_times _ t.connections, c.requires)) in
    let s = timed _ _ _ _ _ t.opened c.args.outlook.standing taken long in
    (s.sound, s.room)

pub returns : goal.returns
returns c =
    let t = c.args.outlook.timetable in
    let g = c.args.graph.now in
    let front = ap (λ (area : List ℕ). area ++ drop (2 * t.connections) g) c.expected_times.ensures in
    let taken = front_taken _ g _ (2 * t.connections) (length_times _ t.connections) front in
    let q = graph_by_times _ _ _ _ _ t.opened c.args.outlook.standing taken in
    drawn_over t.file.now t.stops t.connections t.opened c.args.outlook.notices.now g _ _ front (rw q at c.put_lists.ensures)
