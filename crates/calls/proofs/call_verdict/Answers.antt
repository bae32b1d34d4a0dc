-- `calls::call_verdict` meets its contract. Assumes nothing.
use Rattle.calls.proofs.call_verdict.Goals as goal

pub returns-in-Post : goal.returns-in-Post
returns-in-Post c =
    rw c.in-Post.is c.posting_verdict.ensures

pub returns-in-Withdraw : goal.returns-in-Withdraw
returns-in-Withdraw c =
    rw c.in-Withdraw.is (rw c.counted.ensures at c.withdrawal_verdict.ensures)
