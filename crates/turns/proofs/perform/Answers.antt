-- `turns::perform` meets its contract: each command by what its operation ensures. Assumes nothing.
use Rattle.std.proofs.Common.{rules}
use Rattle.model.specs.Day.{day_of, lent}
use Rattle.written_replies.specs.declared.Reply.TheVariants as R
use Rattle.turns.specs.Turns.{state, turn_of}
use Rattle.turns.proofs.Turns.{changing_performed, enquiring_performed, telling_performed, made_by, told_again}
use Rattle.turns.proofs.perform.Goals as goal

pub returns-in-Post : goal.returns-in-Post
unfolding turn_of
returns-in-Post c =
    let a = c.args in
    let s = state (lent a.notices.now a.graph.now) a.work.now a.journey.now in
    rw c.in-Post.is (changing_performed s R.Posted _ _ c.post.ensures c.map.ensures.cases (λ n. tt))

pub returns-in-Withdraw : goal.returns-in-Withdraw
unfolding turn_of
returns-in-Withdraw c =
    let a = c.args in
    let s = state (lent a.notices.now a.graph.now) a.work.now a.journey.now in
    rw c.in-Withdraw.is (changing_performed s R.Withdrawn _ _ c.withdraw.ensures c.map-in-Withdraw.ensures.cases (λ n. tt))

pub returns-in-Enquire : goal.returns-in-Enquire
unfolding turn_of
returns-in-Enquire c =
    let a = c.args in
    let s = state (lent a.notices.now a.graph.now) a.work.now a.journey.now in
    let made = made_by _ _ c.map-in-Enquire.ensures.cases (λ v reply h. search rules) in
    rw c.in-Enquire.is (enquiring_performed (day_of a.file.now) s _ _ _ _ _ c.enquire.ensures made)

pub returns-in-Margin : goal.returns-in-Margin
unfolding turn_of
returns-in-Margin c =
    let a = c.args in
    let s = state (lent a.notices.now a.graph.now) a.work.now a.journey.now in
    rw c.in-Margin.is (telling_performed s R.Margin _ _ c.margin.ensures.answer (search (rules, told_again)) (λ z. tt))

pub returns-in-Why : goal.returns-in-Why
unfolding turn_of
returns-in-Why c =
    let a = c.args in
    let s = state (lent a.notices.now a.graph.now) a.work.now a.journey.now in
    let made = made_by _ _ c.map-in-Why.ensures.cases (λ v reply h. search rules) in
    rw c.in-Why.is (telling_performed s (R.Why c.in-Why.connection) _ _ c.why.ensures made (λ p. tt))
