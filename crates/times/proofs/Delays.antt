-- The times by primary delays that were told from a notice area are those with the notices that stand by it. Assumes nothing.
use Rattle.std.proofs.Common.{◌≡◌, ℕ, zero, suc, ◌<◌, ◌≤◌, List, sym, refl, ap, subst, arith}
use Rattle.model.specs.Network.{Network}
use Rattle.model.specs.declared.PrimaryDelay.{PrimaryDelay}
use Rattle.model.specs.Notices.{most_standing, rows_of, Standing}
use Rattle.model.specs.Graph.{times}
use Rattle.model.specs.Times.{Conditions, conditions_of, network_of}
use Rattle.model.specs.Day.{day_of}
use Rattle.model.proofs.Primary.{primary_most}
use Rattle.model.proofs.Times.{departure_same, arrival_same}
use Rattle.delays.specs.Delays.{Tells}
use Rattle.times.specs.Times.{conditions_in, Delays, network_in}

-- times depend only on the departures and arrivals of their connections
pub times_same : (net net' : Network) (n : ℕ) → ((c : ℕ) → c < n → net.departure c ≡ net'.departure c)
    → ((c : ℕ) → c < n → net.arrival c ≡ net'.arrival c) → times net n ≡ times net' n
unfolding times
times_same net net' zero d a = refl
times_same net net' (suc n) d a =
    rw (times_same net net' n (λ c l. d c (omega arith)) (λ c l. a c (omega arith)), d n (omega arith), a n (omega arith))

-- primary delays told by the notices that stand
module _ (f notices primaries : List ℕ) (n m : ℕ) {C : ℕ} (standing : Standing C notices) (long : n ≤ m)
    (told : Tells (rows_of notices) primaries m) where
  -- none is longer than a notice's
  pub delays_most : Delays primaries n
  delays_most =
      record {
        room = omega (arith, told.room);
        most = λ c h.
            subst (λ (p : PrimaryDelay). p.delay ≤ most_standing) (sym (told.tells c (omega arith))) (primary_most c C 0 (rows_of notices) standing.rows.ascending);
      }

  -- so that the times are those with the notices that stand
  pub times_standing : times (network_in f primaries) n ≡ times (network_of (day_of f) (rows_of notices)) n
  unfolding network_of
  times_standing =
      let conditions : Conditions = conditions_in primaries in
      let conditions' : Conditions = conditions_of (rows_of notices) in
      let same : (e : ℕ) → e < n → (conditions.primary e).delay ≡ (conditions'.primary e).delay =
      λ e h. ap (λ (p : PrimaryDelay). p.delay) (told.tells e (omega arith)) in
      times_same (network_in f primaries) (network_of (day_of f) (rows_of notices)) n
      (λ c h. departure_same f conditions conditions' c (λ e l. same e (omega arith)))
      (λ c h. arrival_same f conditions conditions' c (λ e l. same e (omega arith)))
