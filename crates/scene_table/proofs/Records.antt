-- Records of a table: how many, one by one, and what is left of them.
-- Assumes nothing.
use mathlib.Core.Path.{◌≡◌, refl, ap, ◌∙◌}
use mathlib.Core.Bool.{Bool, true}
use mathlib.Core.List.{List, [], ◌∷◌, map}
use Prim.Native.Nat.{ℕ, zero, suc, ◌+◌, ◌*◌, ◌≤◌, ◌<◌}
use native.Mathlib.Nat.{mul-suc, mul-zero, not-suc-le-zero, le_of_suc-le-suc}
use native.Mathlib.Omega.{arith}
use native.Mathlib.Numerals.{add-one}
use lib.ListN.{length, length-map, drop, get_or, drop_of_length-le}
use lib.Seq.{drop-cons}
use Rattle.octets.specs.Lists.{every}
use Rattle.octets.proofs.Every.{every-nth}
use Rattle.scene_table.specs.Lent.{records_at}

-- l is f 0, f 1, .. f (n - 1): its elements, and what is left of it at each turn of a loop
pub record Listed {A : Type 0} (l : List A) (n : ℕ) (f : ℕ → A) : Type 0 where
  pub long : length l ≡ n
  pub nth : (i : ℕ) (d : A) → i < n → get_or l i d ≡ f i
  pub turn : (i : ℕ) → i < n → drop i l ≡ f i ∷ drop (i + 1) l
  pub none : (i : ℕ) → n ≤ i → drop i l ≡ []

pub listed : {A : Type 0} (l : List A) (n : ℕ) (f : ℕ → A) → length l ≡ n → ((i : ℕ) (d : A) → i < n → get_or l i d ≡ f i) → Listed l n f
listed l n f long nth = record {
  long = long;
  nth = nth;
  turn = λ i h. let k : i < length l = rw long h in rw (add-one, drop-cons l i (f i) k, nth i (f i) h);
  none = λ i h. let k : length l ≤ i = rw long h in drop_of_length-le l k;
}

-- the elements of a list, each by the same function
map-nth : {A B : Type 0} (f : A → B) (l : List A) (i : ℕ) (d : B) (a : A) → i < length l → get_or (map f l) i d ≡ f (get_or l i a)
map-nth f [] i d a h = absurd (not-suc-le-zero h)
map-nth f (x ∷ l) zero d a h = refl
map-nth f (x ∷ l) (suc i) d a h = map-nth f l i d a (le_of_suc-le-suc h)

pub map-listed : {A B : Type 0} (f : A → B) (l : List A) (n : ℕ) (g : ℕ → A) → Listed l n g → Listed (map f l) n (λ i. f (g i))
map-listed f l n g h =
    listed (map f l) n (λ i. f (g i)) (length-map l f ∙ h.long)
    (λ i d k. map-nth f l i d (g i) (rw h.long k) ∙ ap f (h.nth i (g i) k))

-- a test that all elements pass
pub listed-every : {A : Type 0} (p : A → Bool) {l : List A} {n : ℕ} {f : ℕ → A} → Listed l n f → every p l ≡ true → (i : ℕ) → i < n → p (f i) ≡ true
listed-every p {l} {n} {f} s e i h = rw (s.nth i (f i) h) at (every-nth p l i (f i) e (rw s.long h))

module _ {A : Type 0} (read : ℕ → A) (w : ℕ) where
  -- the next record
  record-next : (at i : ℕ) → at + w + w * i ≡ at + w * suc i
  record-next at i = rw mul-suc (omega arith)

  pub length-records : (n at : ℕ) → length (records_at read w n at) ≡ n
  unfolding records_at
  length-records zero at = refl
  length-records (suc n) at = ap suc (length-records n (at + w))

  -- record i
  pub record-nth : (n at i : ℕ) (d : A) → i < n → get_or (records_at read w n at) i d ≡ read (at + w * i)
  unfolding records_at
  record-nth zero at i d h = absurd (not-suc-le-zero h)
  record-nth (suc n) at zero d h = ap read (rw mul-zero (omega arith))
  record-nth (suc n) at (suc i) d h = record-nth n (at + w) i d (le_of_suc-le-suc h) ∙ ap read (record-next at i)

  -- no record
  pub record-past : (n at i : ℕ) (d : A) → n ≤ i → get_or (records_at read w n at) i d ≡ d
  unfolding records_at
  record-past zero at i d h = refl
  record-past (suc n) at zero d h = absurd (not-suc-le-zero h)
  record-past (suc n) at (suc i) d h = record-past n (at + w) i d (le_of_suc-le-suc h)

  -- the records as a list
  pub records-listed : (n at : ℕ) → Listed (records_at read w n at) n (λ i. read (at + w * i))
  records-listed n at = listed (records_at read w n at) n (λ i. read (at + w * i)) (length-records n at) (record-nth n at)

pub ruleset digit_reads = (record-nth, record-past)
