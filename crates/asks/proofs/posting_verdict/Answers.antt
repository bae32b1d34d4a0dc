-- `asks::posting_verdict` meets its contract. Assumes nothing.
use Rattle.std.proofs.Common.{◌≡◌, true, false, length, sym, ◌∙◌, arith, eq-eqb, ne_eqb, le-leb}
use borrow.Author.Tests.{lt-leb}
use Rattle.model.specs.Notices.{room, least_delay, most_posted, rows_of, stands, stands_elsewhere}
use Rattle.model.proofs.Areas.{count_rows}
use Rattle.model.proofs.Asked.{by_standing}
use Rattle.asks.proofs.posting_verdict.Goals as goal

pub returns-then-number-eq-NO_NUMBER : goal.returns-then-number-eq-NO_NUMBER
returns-then-number-eq-NO_NUMBER c =
    rw (eq-eqb c.args.notice.number 0 c.if-number-eq-NO_NUMBER.true)

pub returns-then-n-connection : goal.returns-then-n-connection
returns-then-n-connection c =
    let a = c.args in
    rw (ne_eqb a.notice.number 0 c.if-number-eq-NO_NUMBER.false, le-leb a.n a.notice.connection (omega arith))

pub returns-then-delay-lt-LEAST_DELAY : goal.returns-then-delay-lt-LEAST_DELAY
returns-then-delay-lt-LEAST_DELAY c =
    let a = c.args in
    rw (ne_eqb a.notice.number 0 c.if-number-eq-NO_NUMBER.false, lt-leb a.n a.notice.connection (omega arith), lt-leb least_delay a.notice.delay (omega arith))

pub returns-then-delay-gt-MOST_POSTED : goal.returns-then-delay-gt-MOST_POSTED
returns-then-delay-gt-MOST_POSTED c =
    let a = c.args in
    rw (ne_eqb a.notice.number 0 c.if-number-eq-NO_NUMBER.false, lt-leb a.n a.notice.connection (omega arith), le-leb least_delay a.notice.delay (omega arith), lt-leb a.notice.delay most_posted (omega arith))

pub returns-then-stands_elsewhere : goal.returns-then-stands_elsewhere
returns-then-stands_elsewhere c =
    let a = c.args in
    let ns = rows_of a.posted.notices.now in
    let own = by_standing a.n ns a.notice.number a.notice.connection a.notice.delay in
    let passed = own c.if-number-eq-NO_NUMBER.false (omega arith) (omega arith) (omega arith) in
    let elsewhere : stands_elsewhere a.notice.number a.notice.connection ns ≡ true = sym c.stands_elsewhere.ensures ∙ c.if-stands_elsewhere.true in
    rw (passed, elsewhere)

pub returns-then-is_standing : goal.returns-then-is_standing
returns-then-is_standing c =
    let a = c.args in
    let ns = rows_of a.posted.notices.now in
    let own = by_standing a.n ns a.notice.number a.notice.connection a.notice.delay in
    let passed = own c.if-number-eq-NO_NUMBER.false (omega arith) (omega arith) (omega arith) in
    let here : stands_elsewhere a.notice.number a.notice.connection ns ≡ false = sym c.stands_elsewhere.ensures ∙ c.if-stands_elsewhere.false in
    let standing : stands a.notice.number ns ≡ true = sym (rw c.counted.ensures at c.is_standing.ensures) ∙ c.if-is_standing.true in
    rw (passed, here, standing)

pub returns-then-posted-ge-ROOM : goal.returns-then-posted-ge-ROOM
returns-then-posted-ge-ROOM c =
    let a = c.args in
    let ns = rows_of a.posted.notices.now in
    let own = by_standing a.n ns a.notice.number a.notice.connection a.notice.delay in
    let passed = own c.if-number-eq-NO_NUMBER.false (omega arith) (omega arith) (omega arith) in
    let full = le-leb room (length ns) (omega (arith, count_rows a.posted.notices.now)) in
    let here : stands_elsewhere a.notice.number a.notice.connection ns ≡ false = sym c.stands_elsewhere.ensures ∙ c.if-stands_elsewhere.false in
    let new : stands a.notice.number ns ≡ false = sym (rw c.counted.ensures at c.is_standing.ensures) ∙ c.if-is_standing.false in
    rw (passed, here, new, full)

pub returns : goal.returns
returns c =
    let a = c.args in
    let ns = rows_of a.posted.notices.now in
    let own = by_standing a.n ns a.notice.number a.notice.connection a.notice.delay in
    let passed = own c.if-number-eq-NO_NUMBER.false (omega arith) (omega arith) (omega arith) in
    let full = lt-leb room (length ns) (omega (arith, count_rows a.posted.notices.now)) in
    let here : stands_elsewhere a.notice.number a.notice.connection ns ≡ false = sym c.stands_elsewhere.ensures ∙ c.if-stands_elsewhere.false in
    let new : stands a.notice.number ns ≡ false = sym (rw c.counted.ensures at c.is_standing.ensures) ∙ c.if-is_standing.false in
    rw (passed, here, new, full)
