-- `byte_causes::why_bytes` meets its contract: why by the front is why by the area. Assumes nothing.
use Rattle.std.proofs.Common.{sym, ap, ◌∙◌, arith}
use Rattle.numbers.specs.Numbers.{numbers_of}
use Rattle.model.specs.Notices.{notices_length}
use Rattle.model.specs.Operations.{explained}
use Rattle.model.proofs.Why.{front_explained}
use Rattle.codes.specs.Encoded.{coded_primary}
use Rattle.byte_causes.proofs.why_bytes.Goals as goal

pub returns : goal.returns
returns c =
    let a = c.args in
    c.code.ensures
    ∙ ap coded_primary
    (c.why.ensures
    ∙ ap (λ ns. explained a.file.now ns a.connection) c.read-n.ensures
    ∙ sym (front_explained a.file.now (numbers_of a.notices.now) notices_length (omega arith) a.connection))
