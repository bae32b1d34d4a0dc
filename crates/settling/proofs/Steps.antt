-- The entry that a connection gets, as the code finds it. Assumes nothing.
use Rattle.std.proofs.Common.{◌≡◌, ℕ, ◌-◌, ◌<◌, ◌≤◌, true, false, ltb, List, length, get_or, sym, ◌∙◌, ⊎_elim, arith, le-ltb, lt-ltb}
use mathlib.Core.Bool.{false≢true}
use Rattle.model.specs.Least.{none}
use Rattle.model.specs.Network.{Network, Sound}
use Rattle.model.specs.Journeys.{can_be_first}
use Rattle.model.proofs.Lists.{inside}
use Rattle.model.proofs.ByCases.{by_lt}
use Rattle.settling.specs.Settled.{settled}

-- the entry of d
module _ (net : Network) (a t : ℕ) (work : List ℕ) (d : ℕ) (h : d < length work) where
  -- d itself if it can be first
  pub settle_first : can_be_first net a t d ≡ true → d ≡ settled net a t work d
  unfolding settled
  settle_first f = rw f

  module _ (f : can_be_first net a t d ≡ false) where
    -- what has been collected if it does not stay aboard
    pub settle_alone : net.stays_aboard d ≡ false → get_or work d 0 ≡ settled net a t work d
    unfolding settled
    settle_alone g = rw (f, g) (inside work d 0 none h)

    module _ (g : net.stays_aboard d ≡ true) where
      -- or if the one before is not reached
      pub settle_unreached : none ≤ get_or work (d - 1) 0 → get_or work d 0 ≡ settled net a t work d
      unfolding settled
      settle_unreached r =
          let q : ltb (get_or work (d - 1) none) none ≡ false = le-ltb (get_or work (d - 1) none) none (omega (arith, inside work (d - 1) none 0 (omega arith))) in
          rw (f, g, q) (inside work d 0 none h)

      module _ (r : get_or work (d - 1) 0 < none) where
        aboard : ltb (get_or work (d - 1) none) none ≡ true
        aboard = lt-ltb (get_or work (d - 1) none) none (omega (arith, inside work (d - 1) none 0 (omega arith)))

        -- else the one before, if it is the lower
        pub settle_aboard : d - 1 < get_or work d 0 → d - 1 ≡ settled net a t work d
        unfolding settled
        settle_aboard k = rw (f, g, aboard) (omega (arith, inside work d none 0 h))

        -- or what has been collected, if that is
        pub settle_lower : get_or work d 0 ≤ d - 1 → get_or work d 0 ≡ settled net a t work d
        unfolding settled
        settle_lower k = rw (f, g, aboard) (omega (arith, inside work d none 0 h))

-- the first connection of all is no trip's next
pub aboard_positive : (net : Network) (d : ℕ) → Sound net → net.stays_aboard d ≡ true → 1 ≤ d
aboard_positive net d sound on =
    ⊎_elim (λ (l : 0 < d). l) (λ (l : d ≤ 0). let q : d ≡ 0 = omega arith in absurd (false≢true (sym sound.starts ∙ (rw q at on)))) (by_lt 0 d)
