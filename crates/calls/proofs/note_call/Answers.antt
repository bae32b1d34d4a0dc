-- `calls::note_call` meets its contract. Assumes nothing.
use Rattle.model.specs.Notices.{rows_of}
use Rattle.model.proofs.Asked.{posting_formed, withdrawal_stands}
use Rattle.calls.proofs.note_call.Goals as goal

pub enter-requires : goal.enter-requires
enter-requires c =
    let n = c.in-Post.notice in
    ((c.args.n, c.requires.0), (posting_formed c.args.n (rows_of c.args.notices.now) n.number n.connection n.delay c.requires.0.rows (rw c.in-Post.is at c.requires.1)).fits)

pub strike-requires : goal.strike-requires
strike-requires c =
    ((c.args.n, c.requires.0), withdrawal_stands (rows_of c.args.notices.now) c.in-Withdraw.number (rw c.in-Withdraw.is at c.requires.1))

pub returns-in-Post : goal.returns-in-Post
returns-in-Post c =
    rw c.in-Post.is c.enter.ensures

pub returns-in-Withdraw : goal.returns-in-Withdraw
returns-in-Withdraw c =
    rw c.in-Withdraw.is c.strike.ensures
