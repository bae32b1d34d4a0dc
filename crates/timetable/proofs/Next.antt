-- A connection and the one before it, in the code's numbers: c and c - 1. Assumes nothing.
use Rattle.std.proofs.Common.{◌≡◌, ℕ, zero, suc, ◌-◌, ◌<◌, eqb, List, arith}
use Rattle.timetable.specs.File.{trip, stays_aboard}

pub one_back : (c : ℕ) → suc c - 1 ≡ c
one_back c = omega arith

-- to stay aboard is to have the trip of the one before
pub stays_next : (f : List ℕ) (c : ℕ) → 0 < c → stays_aboard f c ≡ eqb (trip f c) (trip f (c - 1))
unfolding stays_aboard
stays_next f zero h = absurd (omega arith)
stays_next f (suc c) h = rw one_back
