-- What the code of a call relies on. Assumes nothing.
use Rattle.std.proofs.Common.{◌≡◌, ℕ, List}
use Rattle.refusals.specs.Answers.{Passed}
use Rattle.model.specs.Notices.{WellFormed}
use Rattle.model.specs.declared.Notice.{Notice}
use Rattle.model.specs.Parts.{asked_verdict}
use Rattle.model.proofs.Entering.{struck_formed}
use Rattle.model.proofs.Asked.{posting_formed}
use Rattle.calls.specs.declared.Call.{Call}
use Rattle.calls.specs.declared.Call.TheVariants.{Post, Withdraw}
use Rattle.calls.specs.Call.{asks_of, standing_after}

-- notices that may stand after a call that passes
pub call_formed : (C : ℕ) (ns : List Notice) (call : Call) → WellFormed C ns → asked_verdict ns (asks_of C call) ≡ Passed
    → WellFormed C (standing_after call ns)
call_formed C ns (Post n) w h = posting_formed C ns n.number n.connection n.delay w h
call_formed C ns (Withdraw n) w h = struck_formed C n ns w
