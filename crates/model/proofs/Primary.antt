-- The primary delay of a connection: which of two delays prevails, which notice gives it, and that the order of the notices has no
-- meaning. Assumes nothing.
use Rattle.std.proofs.Common.{◌≡◌, ℕ, ◌<◌, ◌≤◌, true, false, ◌&&◌, eqb, ltb, ◌⊎◌, ◌↔◌, List, [], ◌∷◌, sym, refl, ap, ◌∙◌, inl, inr, ⊎_elim, arith, ltb-true, le-ltb, lt-ltb, eq-eqb, ne_eqb, eqb-true}
use mathlib.Core.List.Memᴰ
use mathlib.Core.List.{Memᴰ}
use Rattle.timetable.proofs.Tests.{below, either, only_if}
use Rattle.model.specs.declared.PrimaryDelay.{PrimaryDelay}
use Rattle.model.specs.Notices.{most_standing, Ascending}
use Rattle.model.specs.declared.Notice.{Notice}
use Rattle.model.specs.Times.{no_delay, given_by, prevails, with_notice, primary_delay}
use Rattle.model.proofs.ByCases.{by_lt, by_eq, by_bool, and_left, and_right, or_cases}
use Rattle.model.proofs.Entering.{among_within}

-- p does not prevail over q: it is no longer, and if it is as long its number is no lower
pub record Yields (p q : PrimaryDelay) : Type 0 where
  pub no_longer : p.delay ≤ q.delay
  pub no_lower : p.delay ≡ q.delay → q.notice ≤ p.notice

module _ (p q : PrimaryDelay) where
  pub yields_iff : (prevails p q ≡ false) ↔ Yields p q
  unfolding prevails
  yields_iff =
      let w = either (ltb q.delay p.delay) _ (below q.delay p.delay) (only_if (eqb p.delay q.delay) _ (below p.notice q.notice)) in (
        λ h. record { no_longer = (w.0 h).0; no_lower = λ e. (w.0 h).1 (eq-eqb p.delay q.delay e) },
        λ y. w.1 (y.no_longer, λ e. y.no_lower (eqb-true p.delay q.delay e)),
      )

  -- delays of one length are told apart by their numbers, others by their lengths
  pub prevails_equal : p.delay ≡ q.delay → prevails p q ≡ ltb p.notice q.notice
  unfolding prevails
  prevails_equal e = rw (eq-eqb p.delay q.delay e, le-ltb q.delay p.delay (omega arith))

  pub prevails_other : (p.delay ≡ q.delay → ⊥) → prevails p q ≡ ltb q.delay p.delay
  unfolding prevails
  prevails_other e =
      rw (ne_eqb p.delay q.delay e)
      (⊎_elim (λ l. rw (lt-ltb q.delay p.delay l)) (λ l. rw (le-ltb q.delay p.delay l)) (by_lt q.delay p.delay))

  -- of two delays one yields
  prevails_yields : prevails p q ≡ true → Yields q p
  unfolding prevails
  prevails_yields h =
      let longer = ltb q.delay p.delay in
      let equal = eqb p.delay q.delay in
      let lower = ltb p.notice q.notice in
      ⊎_elim
      (λ e. by_longer (ltb-true _ _ e))
      (λ e. by_lower (eqb-true _ _ (and_left equal lower e)) (ltb-true _ _ (and_right equal lower e)))
      (or_cases longer (equal && lower) h)
    where
      by_longer : q.delay < p.delay → Yields q p
      by_longer l = record { no_longer = omega arith; no_lower = λ (e : q.delay ≡ p.delay). omega arith }

      by_lower : p.delay ≡ q.delay → p.notice < q.notice → Yields q p
      by_lower e l = record { no_longer = omega arith; no_lower = λ f. omega arith }

  -- two that yield to each other are the same
  yields_both : Yields p q → Yields q p → p ≡ q
  yields_both y z =
      let d : p.delay ≡ q.delay = omega (arith, y.no_longer, z.no_longer) in
      let n : p.notice ≡ q.notice = omega (arith, y.no_lower d, z.no_lower (sym d)) in
      λ i. record { delay = d i; notice = n i }

yields_refl : (p : PrimaryDelay) → Yields p p
yields_refl p = record { no_longer = omega arith; no_lower = λ e. omega arith }

yields_trans : {p q r : PrimaryDelay} → Yields p q → Yields q r → Yields p r
yields_trans {p} {q} {r} y z =
    record {
      no_longer = omega (arith, y.no_longer, z.no_longer);
      no_lower = λ (e : p.delay ≡ r.delay).
          let d : p.delay ≡ q.delay = omega (arith, y.no_longer, z.no_longer) in
          omega (arith, y.no_lower d, z.no_lower (sym d ∙ e));
    }

-- a connection's primary delay with one more notice of it: that of the notice or the one before, and both yield to it
record One (n : Notice) (p r : PrimaryDelay) : Type 0 where
  before_yields : Yields p r
  given_yields : Yields (given_by n) r
  either_of : (r ≡ given_by n) ⊎ (r ≡ p)

module _ (c : ℕ) (n : Notice) (p : PrimaryDelay) where
  -- a notice of another connection
  pub with_other : (n.connection ≡ c → ⊥) → with_notice c n p ≡ p
  unfolding with_notice
  with_other h = rw (ne_eqb n.connection c h)

  -- a notice of this one whose delay prevails, or does not
  pub with_prevailing : n.connection ≡ c → prevails (given_by n) p ≡ true → with_notice c n p ≡ given_by n
  unfolding with_notice
  with_prevailing h t = rw (eq-eqb n.connection c h, t)

  pub with_yielding : n.connection ≡ c → prevails (given_by n) p ≡ false → with_notice c n p ≡ p
  unfolding with_notice
  with_yielding h t = rw (eq-eqb n.connection c h, t)

  -- a notice of this one
  with_its : n.connection ≡ c → One n p (with_notice c n p)
  with_its h =
      ⊎_elim
      (λ t.
      rw (with_prevailing h t)
      (record { before_yields = prevails_yields (given_by n) p t; given_yields = yields_refl (given_by n); either_of = inl refl }))
      (λ t. rw (with_yielding h t) (record { before_yields = yields_refl p; given_yields = (yields_iff (given_by n) p).0 t; either_of = inr refl }))
      (by_bool (prevails (given_by n) p))

-- the order of two notices has no meaning
module _ (c : ℕ) where
  -- the notices' delays and the one before yield to what comes of both notices, which is one of them
  module _ (a b : Notice) (p : PrimaryDelay) (e : a.connection ≡ c) (f : b.connection ≡ c) where
    abbrev both : PrimaryDelay
    both = with_notice c a (with_notice c b p)

    abbrev first : One b p (with_notice c b p)
    first = with_its c b p f

    abbrev second : One a (with_notice c b p) both
    second = with_its c a (with_notice c b p) e

    one_of : (both ≡ given_by a) ⊎ ((both ≡ given_by b) ⊎ (both ≡ p))
    one_of = ⊎_elim (λ q. inl q) (λ q. inr (⊎_elim (λ r. inl (q ∙ r)) (λ r. inr (q ∙ r)) first.either_of)) second.either_of

    yield : (x : PrimaryDelay) → (x ≡ given_by b) ⊎ ((x ≡ given_by a) ⊎ (x ≡ p)) → Yields x both
    yield x (inl q) = rw q (yields_trans first.given_yields second.before_yields)
    yield x (inr (inl q)) = rw q second.given_yields
    yield x (inr (inr q)) = rw q (yields_trans first.before_yields second.before_yields)

  pub with_comm : (a b : Notice) (p : PrimaryDelay) → with_notice c a (with_notice c b p) ≡ with_notice c b (with_notice c a p)
  with_comm a b p =
      ⊎_elim
      (λ e.
      ⊎_elim
      (λ f. yields_both _ _ (yield b a p f e _ (one_of a b p e f)) (yield a b p e f _ (one_of b a p f e)))
      (λ f. ap (with_notice c a) (with_other c b p f) ∙ sym (with_other c b (with_notice c a p) f))
      (by_eq b.connection c))
      (λ e. with_other c a (with_notice c b p) e ∙ sym (ap (with_notice c b) (with_other c a p e)))
      (by_eq a.connection c)

-- one of the notices is for connection c and gives p
pub record NoticeOf (c : ℕ) (p : PrimaryDelay) (ns : List Notice) : Type 0 where
  pub one : Notice
  pub stands : Memᴰ one ns
  pub its : one.connection ≡ c
  pub gives : given_by one ≡ p

-- none of the notices is for connection c
abbrev pub NoNoticeOf : ℕ → List Notice → Type 0
NoNoticeOf c ns = (n : Notice) → Memᴰ n ns → n.connection ≡ c → ⊥

-- p is no delay or that of one of c's notices, and all of these yield to it
record PrimaryOf (c : ℕ) (ns : List Notice) (p : PrimaryDelay) : Type 0 where
  among : (p ≡ no_delay) ⊎ NoticeOf c p ns
  none_yields : Yields no_delay p
  all_yield : (n : Notice) → Memᴰ n ns → n.connection ≡ c → Yields (given_by n) p

module _ (c : ℕ) where
  further : (a : Notice) {p : PrimaryDelay} {ns : List Notice} → (p ≡ no_delay) ⊎ NoticeOf c p ns → (p ≡ no_delay) ⊎ NoticeOf c p (a ∷ ns)
  further a (inl e) = inl e
  further a (inr w) = inr (record { one = w.one; stands = Memᴰ.tail w.stands; its = w.its; gives = w.gives })

  -- a notice of c in front
  its_more : (a : Notice) {p r : PrimaryDelay} {ns : List Notice} → a.connection ≡ c → One a p r → PrimaryOf c ns p → PrimaryOf c (a ∷ ns) r
  its_more a {p} {r} {ns} e o w =
      record {
        among =
            ⊎_elim
            (λ q. inr (record { one = a; stands = Memᴰ.head refl; its = e; gives = sym q }))
            (λ q. rw q (further a w.among))
            o.either_of;
        none_yields = yields_trans w.none_yields o.before_yields;
        all_yield = λ n m f.
            ⊎_elim (λ q. rw q o.given_yields) (λ k. yields_trans (w.all_yield n k f) o.before_yields) (Memᴰ.cases_cons m);
      }

  -- a notice of another connection in front
  other_more : (a : Notice) {p : PrimaryDelay} {ns : List Notice} → (a.connection ≡ c → ⊥) → PrimaryOf c ns p → PrimaryOf c (a ∷ ns) p
  other_more a e w =
      record {
        among = further a w.among;
        none_yields = w.none_yields;
        all_yield = λ n m f. ⊎_elim (λ q. absurd (e (rw q at f))) (λ k. w.all_yield n k f) (Memᴰ.cases_cons m);
      }

  primary_of : (ns : List Notice) → PrimaryOf c ns (primary_delay c ns)
  unfolding primary_delay
  primary_of [] =
      record { among = inl refl; none_yields = yields_refl no_delay; all_yield = λ n m e. absurd (Memᴰ.not-nil m) }
  primary_of (a ∷ ns) =
      ⊎_elim
      (λ e. its_more a e (with_its c a (primary_delay c ns) e) (primary_of ns))
      (λ e. rw (with_other c a (primary_delay c ns) e) (other_more a e (primary_of ns)))
      (by_eq a.connection c)

  -- no notice of c has a longer delay
  pub primary_largest : (n : Notice) (ns : List Notice) → Memᴰ n ns → n.connection ≡ c → n.delay ≤ (primary_delay c ns).delay
  primary_largest n ns m e = ((primary_of ns).all_yield n m e).no_longer

  -- none that has as long a delay has a lower number
  pub primary_lowest : (n : Notice) (ns : List Notice) → Memᴰ n ns → n.connection ≡ c → n.delay ≡ (primary_delay c ns).delay
      → (primary_delay c ns).notice ≤ n.number
  primary_lowest n ns m e d = ((primary_of ns).all_yield n m e).no_lower d

  module _ (C before : ℕ) (ns : List Notice) (w : Ascending C before ns) where
    -- 0 and 0 exactly if no notice of c stands
    pub primary_none_iff : (primary_delay c ns ≡ no_delay) ↔ NoNoticeOf c ns
    primary_none_iff = (
      λ h n m e.
          let l : n.delay ≤ 0 = rw h at (primary_largest n ns m e) in
          omega (arith, (among_within C before n ns m w).least),
      λ h. ⊎_elim (λ e. e) (λ o. absurd (h o.one o.stands o.its)) (primary_of ns).among,
    )

    -- else its notice stands, for c and with that delay
    pub primary_among : ((primary_delay c ns ≡ no_delay) × NoNoticeOf c ns) ⊎ NoticeOf c (primary_delay c ns) ns
    primary_among = ⊎_elim (λ e. inl (e, primary_none_iff.0 e)) (λ o. inr o) (primary_of ns).among

    -- notices within their limits: so is the primary delay
    pub primary_most : (primary_delay c ns).delay ≤ most_standing
    primary_most =
        ⊎_elim
        (λ e. rw e (omega arith))
        (λ o. rw (← o.gives) (among_within C before o.one ns o.stands w).most)
        (primary_of ns).among

-- what the primary delay of c is by these notices, p: none stands for c, or one that gives it; none for c has a longer delay, and none
-- as long a lower number
pub record CauseOf (c : ℕ) (ns : List Notice) (p : PrimaryDelay) : Type 0 where
  pub given : ((p ≡ no_delay) × NoNoticeOf c ns) ⊎ NoticeOf c p ns
  pub longest : (n : Notice) → Memᴰ n ns → n.connection ≡ c → n.delay ≤ p.delay
  pub lowest : (n : Notice) → Memᴰ n ns → n.connection ≡ c → n.delay ≡ p.delay → p.notice ≤ n.number

pub cause_of : (c C before : ℕ) (ns : List Notice) → Ascending C before ns → CauseOf c ns (primary_delay c ns)
cause_of c C before ns w =
    record {
      given = primary_among c C before ns w;
      longest = λ n m e. primary_largest c n ns m e;
      lowest = λ n m e d. primary_lowest c n ns m e d;
    }

-- it depends on which notices there are, not on their order
pub primary_same : (c : ℕ) (ns ms : List Notice) → ((n : Notice) → Memᴰ n ns ↔ Memᴰ n ms) → primary_delay c ns ≡ primary_delay c ms
primary_same c ns ms same =
    yields_both (primary_delay c ns) (primary_delay c ms)
    (at_most ns ms (λ n. (same n).0) (primary_of c ns).among) (at_most ms ns (λ n. (same n).1) (primary_of c ms).among)
  where
    at_most : (xs ys : List Notice) → ((n : Notice) → Memᴰ n xs → Memᴰ n ys)
        → {p : PrimaryDelay} → (p ≡ no_delay) ⊎ NoticeOf c p xs → Yields p (primary_delay c ys)
    at_most xs ys there (inl e) = rw e (primary_of c ys).none_yields
    at_most xs ys there (inr o) = rw (← o.gives) ((primary_of c ys).all_yield o.one (there o.one o.stands) o.its)

-- without notices there is no delay
pub primary_none : (c : ℕ) → primary_delay c [] ≡ no_delay
unfolding primary_delay
primary_none c = refl

-- a notice in front
pub primary_more : (c : ℕ) (n : Notice) (ns : List Notice) → primary_delay c (n ∷ ns) ≡ with_notice c n (primary_delay c ns)
unfolding primary_delay
primary_more c n ns = refl
