-- A line's numbers fit into the table. Assumes nothing.
use Rattle.std.specs.Prelude.{Option, None, Some}
use Prim.Native.Nat.{ℕ, zero, suc, ◌+◌, ◌≤◌, ◌<◌}
use mathlib.Core.Bool.{Bool, true, false, cond, not, ◌&&◌, false≢true}
use mathlib.Core.Path.{◌≡◌, refl, sym, ◌∙◌}
use mathlib.Core.List.{List, [], ◌∷◌}
use mathlib.Core.Logic.{◌⊎◌, inl, inr, ⊎_elim}
use native.Mathlib.Omega.{arith}
use native.Mathlib.Nat.{eq-or-lt_of_le, le_of_suc-le-suc, mul-le-mul_left}
use lib.ListN.{length, get_or, length-append, length-map}
use lib.Dec.{ltb, leb, eqb}
use borrow.Author.Tests.{eq-eqb, eqb-true, leb-true, lt-ltb, ltb-true, ltb-false, eqb-false}
use Rattle.octets.specs.Lists.{every}
use Rattle.scene_line.specs.declared.form.Form.{Form}
use Rattle.scene_line.specs.declared.form.Form.TheVariants.{Group, Since, TypeHash, Hash, TypeScript, Hex, Capacity, Digits}
use Rattle.scene_line.specs.declared.kind.Kind.{Kind}
use Rattle.scene_line.specs.declared.kind.Kind.TheVariants.{Script, Tx, Input, Output, Dep, Witness, Verdicts}
use Rattle.text.specs.Text.{hex_val, in_range}
use Rattle.scene_line.specs.Line.{next_form, field_ok, bare_after, field_entries, line_entries, forms_ok}
use Rattle.scene_line.proofs.KindLaws.{rank-small}
use Rattle.scene_line.specs.Kind.{rank, field_count, first_form, follows}
use Rattle.protocol.specs.Limits.{table_min_entries}
use Rattle.octets.proofs.Truth.{and_left, and_right}
use Rattle.scene_reader.specs.Reader.{seen_with}
use Rattle.scene_reader.specs.Room.{entries_before, entries_each, entries_limit}

-- how many entries a field of form t has at most
field_most : Form → ℕ
field_most Group = 1
field_most Since = 2
field_most TypeHash = 0
field_most Hash = 0
field_most TypeScript = 1
field_most Hex = 1
field_most Capacity = 2
field_most Digits = 17

field-few : (b : Bool) (t : Form) (f : List ℕ) → field_ok b t f ≡ true → length (field_entries t f) ≤ field_most t
unfolding field_most
field-few b Group f ok = omega arith
field-few b Since f ok = omega arith
field-few b TypeHash f ok = omega arith
field-few b Hash f ok = omega arith
field-few b TypeScript f ok = omega arith
field-few b Hex f ok = omega arith
field-few b Capacity f ok = omega arith
field-few b Digits f ok = omega (arith, length-map f hex_val, leb-true (length f) 16 (and_left (leb (length f) 16) (every (in_range 48 50) f) ok))

-- the same of n fields, the first of form t
most : Form → ℕ → ℕ
most t zero = 0
most t (suc n) = field_most t + most (next_form t) n

numbers-few : (b : Bool) (t : Form) (fs : List (List ℕ)) → forms_ok b t fs ≡ true → length (line_entries t fs) ≤ most t (length fs)
unfolding line_entries forms_ok most
numbers-few b t [] ok = omega arith
numbers-few b t (f ∷ fs) ok =
    let rest = forms_ok (bare_after b t f) (next_form t) fs in
    let few = field-few b t f (and_left (field_ok b t f) rest ok) in
    let others = numbers-few (bare_after b t f) (next_form t) fs (and_right (field_ok b t f) rest ok) in
    omega (arith, length-append (field_entries t f) (line_entries (next_form t) fs))

-- how many a line of the kind of rank k takes at most, with its offset in the store
takes : ℕ → ℕ
takes k = get_or (2 ∷ 2 ∷ 1 ∷ 8 ∷ 5 ∷ 3 ∷ 2 ∷ 18 ∷ []) k 0

most-takes : (k : Option Kind) → 1 + most (first_form k) (field_count k) ≡ takes (rank k)
unfolding most field_most takes
most-takes (Some Script) = refl
most-takes (Some Tx) = refl
most-takes (Some Input) = refl
most-takes (Some Output) = refl
most-takes (Some Dep) = refl
most-takes (Some Witness) = refl
most-takes (Some Verdicts) = refl
most-takes None = refl

entries-few : (k : Option Kind) (fs : List (List ℕ)) → length fs ≡ field_count k → forms_ok true (first_form k) fs ≡ true
    → 1 + length (line_entries (first_form k) fs) ≤ takes (rank k)
entries-few k fs n ok = omega (arith, rw n at (numbers-few true (first_form k) fs ok), most-takes k)

-- what the order says of two ranks
order : (last k : ℕ) → follows last k ≡ true → ((last < 2) × (k ≡ last + 1)) ⊎ ((2 ≤ last) × (3 ≤ k) × (last ≤ k) × (last ≡ 7 → ⊥))
unfolding follows
order last k e = go (ltb last 2) refl e
  where
    go : (b : Bool) → ltb last 2 ≡ b → cond b (eqb k (last + 1)) (leb 3 k && (leb last k && not (eqb last 7))) ≡ true
        → ((last < 2) × (k ≡ last + 1)) ⊎ ((2 ≤ last) × (3 ≤ k) × (last ≤ k) × (last ≡ 7 → ⊥))
    go true t h = inl (ltb-true last 2 t, eqb-true k (last + 1) h)
    go false t h =
        let r = and_right (leb 3 k) (leb last k && not (eqb last 7)) h in
        inr (
          ltb-false last 2 t,
          leb-true 3 k (and_left (leb 3 k) (leb last k && not (eqb last 7)) h),
          leb-true last k (and_left (leb last k) (not (eqb last 7)) r),
          λ q. let z : not (eqb last 7) ≡ false = rw (eq-eqb last 7 q) in false≢true (sym z ∙ and_right (leb last k) (not (eqb last 7)) r),
        )

-- a test of all numbers below n, by computing it at each
all_below : ℕ → (ℕ → Bool) → Bool
all_below zero p = true
all_below (suc n) p = p n && all_below n p

below : (n : ℕ) (p : ℕ → Bool) (k : ℕ) → k < n → all_below n p ≡ true → p k ≡ true
unfolding all_below
below zero p k h e = absurd (omega arith)
below (suc n) p k h e =
    ⊎_elim
    (λ q. rw q (and_left (p n) (all_below n p) e))
    (λ q. below n p k q (and_right (p n) (all_below n p) e))
    (eq-or-lt_of_le (le_of_suc-le-suc h))

-- the most lines of one kind leave room for a line of a later kind
later_fits : ℕ → ℕ → Bool
later_fits last k = cond (ltb last k) (leb (entries_limit last 64 + takes k) (entries_limit k 1)) true

-- the limit has room for one more line of a kind that may stand many times
same_fits : ℕ → Bool
same_fits k = cond (ltb 2 k && ltb k 7) (leb (takes k) (entries_each k)) true

later-fits : (last k : ℕ) → last < k → k < 8 → entries_limit last 64 + takes k ≤ entries_limit k 1
unfolding all_below later_fits takes entries_limit entries_before entries_each
later-fits last k h hk =
    let all : later_fits last k ≡ true = below 8 (later_fits last) k hk (below 8 (λ (l : ℕ). all_below 8 (later_fits l)) last (omega arith) refl) in
    leb-true _ _ (rw (lt-ltb last k h) at all)

same-fits : (k : ℕ) → 2 < k → k < 7 → takes k ≤ entries_each k
unfolding all_below same_fits takes entries_each
same-fits k a b =
    let all : same_fits k ≡ true = below 8 same_fits k (omega arith) refl in
    leb-true _ _ (rw (lt-ltb 2 k a, lt-ltb k 7 b) at all)

-- no more than with 64 lines of the last kind
entries-limit-most : (k n : ℕ) → n ≤ 64 → entries_limit k n ≤ entries_limit k 64
unfolding entries_limit
entries-limit-most k n h = omega (arith, mul-le-mul_left (entries_each k) h)

entries-limit-next : (k n : ℕ) → entries_limit k (n + 1) ≡ entries_limit k n + entries_each k
unfolding entries_limit
entries-limit-next k n = omega arith

seen-either : (last seen k : ℕ) → ((k ≡ last) × (seen_with last seen k ≡ seen + 1)) ⊎ ((k ≡ last → ⊥) × (seen_with last seen k ≡ 1))
seen-either last seen k = go (eqb k last) refl
  where
    go : (b : Bool) → eqb k last ≡ b → ((k ≡ last) × (cond b (seen + 1) 1 ≡ seen + 1)) ⊎ ((k ≡ last → ⊥) × (cond b (seen + 1) 1 ≡ 1))
    go true t = inl (eqb-true k last t, refl)
    go false t = inr (eqb-false k last t, refl)

module _ (last seen k n c filled : ℕ) (hk : k < 8) (hs : seen ≤ 64) (hf : filled ≤ entries_limit last seen) (hc : c ≤ takes k) where
  -- a line of c entries: one of the same kind as the last
  grows_same : k ≡ last → 2 < k → k < 7 → n ≡ seen + 1 → filled + c ≤ entries_limit k n
  grows_same e a b q =
      let same : entries_limit k seen ≡ entries_limit last seen = rw e in
      rw q (omega (arith, entries-limit-next k seen, same-fits k a b))

  -- one of a later kind
  grows-later : last < k → n ≡ 1 → filled + c ≤ entries_limit k n
  grows-later h q = rw q (omega (arith, entries-limit-most last seen hs, later-fits last k h hk))

  -- the entries in use stay within the limit
  grows : ((last < 2) × (k ≡ last + 1)) ⊎ ((2 ≤ last) × (3 ≤ k) × (last ≤ k) × (last ≡ 7 → ⊥)) → ((k ≡ last) × (n ≡ seen + 1)) ⊎ ((k ≡ last → ⊥) × (n ≡ 1))
      → filled + c ≤ entries_limit k n
  grows (inl a) (inl u) = absurd (omega arith)
  grows (inr a) (inl u) = grows_same u.0 (omega arith) (omega arith) u.1
  grows (inl a) (inr u) = grows-later (omega arith) u.1
  grows (inr a) (inr u) = grows-later (omega arith) u.1

pub fits : (last seen filled : ℕ) (k : Option Kind) (fs : List (List ℕ)) → seen ≤ 64 → filled ≤ entries_limit last seen
    → length fs ≡ field_count k → follows last (rank k) ≡ true → forms_ok true (first_form k) fs ≡ true
    → filled + 1 + length (line_entries (first_form k) fs) ≤ entries_limit (rank k) (seen_with last seen (rank k))
fits last seen filled k fs hs hf n o ok =
    let h = grows last seen (rank k) (seen_with last seen (rank k)) (1 + length (line_entries (first_form k) fs)) filled (rank-small k) hs hf (entries-few k fs n ok) (order last (rank k) o) (seen-either last seen (rank k)) in
    let e : filled + 1 + length (line_entries (first_form k) fs) ≡ filled + (1 + length (line_entries (first_form k) fs)) = omega arith in
    rw e h

pub entries-limit-small : (k n : ℕ) → k < 8 → n ≤ 64 → entries_limit k n ≤ table_min_entries
unfolding all_below entries_limit entries_before entries_each
entries-limit-small k n hk hn =
    let all : leb (entries_limit k 64) table_min_entries ≡ true = below 8 (λ (r : ℕ). leb (entries_limit r 64) table_min_entries) k hk refl in
    omega (arith, entries-limit-most k n hn, leb-true (entries_limit k 64) table_min_entries all)
