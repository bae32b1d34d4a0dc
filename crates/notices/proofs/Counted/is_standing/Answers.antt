-- `notices::Counted::is_standing` meets its contract. Assumes nothing.
use Rattle.std.proofs.Common.{◌∙◌}
use Rattle.notices.proofs.Finding.{stands_found}
use Rattle.notices.proofs.Counted.is_standing.Goals as goal

pub returns : goal.returns
returns c =
    c.is_some.ensures ∙ stands_found c.args.number c.args.self.notices.now c.row_of.result c.row_of.ensures
