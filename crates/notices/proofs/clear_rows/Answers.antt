-- An area whose front is filled with zeros is that of no notices.
use Rattle.std.proofs.Common.{◌≡◌, ℕ, ◌≤◌, List, [], ◌++◌, length, take, drop, replicate}
use Rattle.std.proofs.lemmas.List.{length-take-le}
use Rattle.model.specs.Notices.{notices_length, area_with}
use Rattle.model.proofs.Areas.{area_none}
use Rattle.notices.proofs.clear_rows.Goals as goal

filled : (front area : List ℕ) → notices_length ≤ length area → front ≡ replicate (length (take notices_length area)) 0
    → front ++ drop notices_length area ≡ area_with [] area
filled front area h e =
    rw (e, length-take-le, area_none)

pub returns : goal.returns
returns c =
    filled c.fill.new.self c.args.notices.now c.requires (c.fill.ensures.after (λ y e. e))
