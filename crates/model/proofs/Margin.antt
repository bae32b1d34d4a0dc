-- What a margin says: 0 is just made, -1 is missed by a minute; and its ends. Assumes nothing.
use Rattle.std.proofs.Common.{◌≡◌, ℕ, zero, suc, ◌+◌, ◌-◌, ◌<◌, ◌≤◌, ◌↔◌, sym, refl, ap, ◌∙◌, ⊎_elim, arith, le→leb, le-ltb, lt-ltb}
use lib.IntN.{ℤ, pos, negsuc, sub_ℕ, ◌+ℤ◌, ◌-ℤ◌, neg_ℤ, +ℤ_assoc, neg_ℤ-+ℤ}
use lib.Signed.{◌≤ℤ◌, le_z_yes}
use Rattle.timetable.specs.Check.{max_transfer_time}
use Rattle.model.specs.Network.{Network, last_expected, Sound}
use Rattle.model.specs.Graph.{board, ready}
use Rattle.model.specs.Margin.{margin_between, margin_of, MarginRange}
use Rattle.model.proofs.ByCases.{by_lt}

sub_is : (d s : ℕ) → pos d -ℤ pos s ≡ sub_ℕ d s
sub_is d zero = rw (le-ltb d 0 (omega arith)) (ap pos (omega arith))
sub_is d (suc s) = refl

module _ (d a g : ℕ) where
  -- a margin is one difference
  pub margin_sub : margin_between d a g ≡ sub_ℕ d (a + g)
  margin_sub =
      +ℤ_assoc (pos d) (neg_ℤ (pos a)) (neg_ℤ (pos g)) ∙ ap (λ (z : ℤ). pos d +ℤ z) (sym (neg_ℤ-+ℤ (pos a) (pos g))) ∙ sub_is d (a + g)

  -- made, with n minutes to spare
  pub made : (n : ℕ) → d ≡ a + g + n → margin_between d a g ≡ pos n
  made n h = margin_sub ∙ rw (le-ltb d (a + g) (omega arith)) (ap pos (omega arith))

  -- missed by n + 1 minutes
  pub missed : (n : ℕ) → d + n + 1 ≡ a + g → margin_between d a g ≡ negsuc n
  missed n h = margin_sub ∙ rw (lt-ltb d (a + g) (omega arith)) (ap negsuc (omega arith))

  -- a margin of n means made with n minutes to spare
  pub made_back : (n : ℕ) → margin_between d a g ≡ pos n → d ≡ a + g + n
  made_back n h =
      ⊎_elim
      (λ (l : d < a + g).
      let e : margin_between d a g ≡ negsuc (a + g - d - 1) = missed (a + g - d - 1) (omega arith) in
      let z : ◌≡◌ {A = ℕ} 0 1 = cc in
      omega arith)
      (λ (l : a + g ≤ d).
      let e : margin_between d a g ≡ pos (d - (a + g)) = made (d - (a + g)) (omega arith) in
      let z : d - (a + g) ≡ n = cc in
      omega arith)
      (by_lt d (a + g))

  -- a margin of -(n + 1) means missed by n + 1 minutes
  pub missed_back : (n : ℕ) → margin_between d a g ≡ negsuc n → d + n + 1 ≡ a + g
  missed_back n h =
      ⊎_elim
      (λ (l : d < a + g).
      let e : margin_between d a g ≡ negsuc (a + g - d - 1) = missed (a + g - d - 1) (omega arith) in
      let z : a + g - d - 1 ≡ n = cc in
      omega arith)
      (λ (l : a + g ≤ d).
      let e : margin_between d a g ≡ pos (d - (a + g)) = made (d - (a + g)) (omega arith) in
      let z : ◌≡◌ {A = ℕ} 0 1 = cc in
      omega arith)
      (by_lt d (a + g))

  -- made with at most k minutes to spare
  pub margin_most : (k : ℕ) → d ≤ a + g + k → margin_between d a g ≤ℤ pos k
  margin_most k h =
      ⊎_elim
      (λ (l : d < a + g). rw (missed (a + g - d - 1) (omega arith)) (le_z_yes tt))
      (λ (l : a + g ≤ d). rw (made (d - (a + g)) (omega arith)) (le_z_yes (le→leb (d - (a + g)) k (omega arith))))
      (by_lt d (a + g))

  -- missed by at most k + 1 minutes
  pub margin_least : (k : ℕ) → a + g ≤ d + suc k → negsuc k ≤ℤ margin_between d a g
  margin_least k h =
      ⊎_elim
      (λ (l : d < a + g). rw (missed (a + g - d - 1) (omega arith)) (le_z_yes (le→leb (a + g - d - 1) k (omega arith))))
      (λ (l : a + g ≤ d). rw (made (d - (a + g)) (omega arith)) (le_z_yes tt))
      (by_lt d (a + g))

module _ (net : Network) (c d : ℕ) where
  -- just made: leaves when a passenger is ready
  pub margin_zero : (margin_of net c d ≡ pos 0) ↔ (net.departure d ≡ ready net c (board net d))
  unfolding margin_of
  margin_zero = (
    λ h. let k = made_back (net.departure d) (net.arrival c) (net.transfer_time c (board net d)) 0 h in omega arith,
    λ h. made (net.departure d) (net.arrival c) (net.transfer_time c (board net d)) 0 (omega arith),
  )

  -- missed by a minute
  pub margin_missed : (margin_of net c d ≡ negsuc 0) ↔ (net.departure d + 1 ≡ ready net c (board net d))
  unfolding margin_of
  margin_missed = (
    λ h. let k = missed_back (net.departure d) (net.arrival c) (net.transfer_time c (board net d)) 0 h in omega arith,
    λ h. missed (net.departure d) (net.arrival c) (net.transfer_time c (board net d)) 0 (omega arith),
  )

  -- a margin lies between its ends
  pub margin_range : Sound net → c < net.connections → d < net.connections → MarginRange (margin_of net c d)
  unfolding margin_of
  margin_range sound h k =
      let x : net.arrival c ≤ last_expected = sound.early c h in
      let y : net.transfer_time c (board net d) ≤ max_transfer_time = sound.transfers c (board net d) h in
      record {
        least = margin_least (net.departure d) (net.arrival c) (net.transfer_time c (board net d)) 5818 (omega arith);
        most = margin_most (net.departure d) (net.arrival c) (net.transfer_time c (board net d)) 5757
            (omega (arith, sound.forward c h, sound.forward d k, sound.early d k));
      }
