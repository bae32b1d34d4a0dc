-- The list of what a function gives. Assumes nothing.
use Rattle.std.proofs.Common.{◌≡◌, ℕ, zero, suc, ◌<◌, List, [], ◌∷◌, length, get_or, refl, ◌∙◌, ⊎_elim, arith, length-append, ext_get_or}
use lib.ListN.{get_or-append}
use lib.Seq.{get_or_at}
use Rattle.model.specs.Least.{tab}
use Rattle.model.proofs.ByCases.{by_last}

pub length_tab : (f : ℕ → ℕ) (n : ℕ) → length (tab f n) ≡ n
unfolding tab
length_tab f zero = refl
length_tab f (suc n) = simp (length-append, length_tab f n) (omega arith)

pub get_or_tab : (f : ℕ → ℕ) (n i d : ℕ) → i < n → get_or (tab f n) i d ≡ f i
unfolding tab
get_or_tab f zero i d h = absurd (omega arith)
get_or_tab f (suc n) i d h =
    ⊎_elim
    (λ (l : i < n). get_or-append (tab f n) (f n ∷ []) d i (rw (length_tab f n) l) ∙ get_or_tab f n i d l)
    (λ q. rw q (get_or_at (tab f n) (f n) [] d n (length_tab f n)))
    (by_last h)

-- a list that agrees with f is its table
pub tab_is : (f : ℕ → ℕ) (n d : ℕ) (w : List ℕ) → length w ≡ n → ((i : ℕ) → i < n → get_or w i d ≡ f i) → w ≡ tab f n
tab_is f n d w e h =
    ext_get_or d w (tab f n) (rw (length_tab f n) e) (λ i l. let k : i < n = omega arith in rw (get_or_tab f n i d k) (h i k))

-- tables of functions that agree
pub tab_same : (f g : ℕ → ℕ) (m n : ℕ) → m ≡ n → ((i : ℕ) → i < m → f i ≡ g i) → tab f m ≡ tab g n
tab_same f g m n q same = tab_is g n 0 (tab f m) (length_tab f m ∙ q) (λ i h. let l : i < m = omega arith in get_or_tab f m i 0 l ∙ same i l)
