-- The walk over a part of a table's records: it goes well exactly where the records are those of the part's lines.
-- Assumes nothing.
use mathlib.Core.Path.{◌≡◌, refl, sym, ap, ap₂, ◌∙◌}
use mathlib.Core.Bool.{Bool, true, false, cond, false≢true}
use Rattle.std.specs.Prelude.{Option, None, Some, is_some, unwrap_or}
use mathlib.Core.List.{List, [], ◌∷◌, ◌++◌, append-nil}
use Prim.Native.Nat.{ℕ, zero, suc, ◌+◌, ◌*◌}
use native.Mathlib.Nat.{add-zero, add_assoc, add_comm, mul-suc, mul-zero}
use borrow.Author.Tests.{eq-eqb, eqb-true}
use lib.Dec.{eqb}
use lib.ListN.{length, get_or, length-append}
use Rattle.octets.specs.Lists.{every}
use Rattle.scene_table.specs.Scene.{Line, records_from}
use Rattle.scene_table.specs.Lent.{table_entry, records_at}
use Rattle.scene_table.specs.RecordsWalk.{required, with_record, record_step, walk_records}
use Rattle.octets.proofs.Truth.{and_both, both-and}
use Rattle.scene_table.proofs.Lines.{total, records-append, total-append, append-parts, cut, cut_parts, length_cut}

-- a record that is good, and where its bytes end
step-there : (k : Option ℕ) (b : Bool) (start size : ℕ) → is_some (with_record (required k b) start size) ≡ true
    → (is_some k ≡ true) × (b ≡ true) × (start ≡ unwrap_or k 0) × (unwrap_or (with_record (required k b) start size) 0 ≡ start + size)
unfolding required with_record
step-there None true start size h = absurd (false≢true h)
step-there None false start size h = absurd (false≢true h)
step-there (Some u) false start size h = absurd (false≢true h)
step-there (Some u) true start size h = go (eqb start u) refl h
  where
    go : (b : Bool) → eqb start u ≡ b → is_some (cond b (Some (start + size)) None) ≡ true
        → (true ≡ true) × (true ≡ true) × (start ≡ u) × (unwrap_or (cond b (Some (start + size)) None) 0 ≡ start + size)
    go true e h = (refl, refl, eqb-true start u e, refl)
    go false e h = absurd (false≢true h)

step-back : (k : Option ℕ) (b : Bool) (start size : ℕ) → is_some k ≡ true → b ≡ true → unwrap_or k 0 ≡ start
    → is_some (with_record (required k b) start size) ≡ true
unfolding required with_record
step-back None b start size g e f = absurd (false≢true g)
step-back (Some u) b start size g e f = rw (e, eq-eqb start u (sym f))

-- the walk from k to k' over the records of some lines, n entries from `at` on, where a further test of them passes
pub record Segment (table : List ℕ) (Test : Type 0) (k : Option ℕ) (at n : ℕ) (ls : List Line) (k' : Option ℕ) : Type 0 where
  pub there : is_some k' ≡ true → (is_some k ≡ true) × Test × (records_from (unwrap_or k 0) ls ≡ cut table n at) × (unwrap_or k' 0 ≡ unwrap_or k 0 + total ls)
  pub back : is_some k ≡ true → Test → records_from (unwrap_or k 0) ls ≡ cut table n at → is_some k' ≡ true
  pub long : (used : ℕ) → length (records_from used ls) ≡ n

module _ (table : List ℕ) where
  -- one part behind another
  pub join : {A B : Type 0} {k l m : Option ℕ} {at n p : ℕ} {ls ms : List Line}
      → Segment table A k at n ls l → Segment table B l (at + n) p ms m → Segment table (A × B) k at (n + p) (ls ++ ms) m
  join {A} {B} {k} {l} {m} {at} {n} {p} {ls} {ms} s t = record {
    there = λ h.
        let b = t.there h in
        let a = s.there b.0 in
        let e : records_from (unwrap_or k 0 + total ls) ms ≡ cut table p (at + n) = rw a.3 at b.2 in
        let u : unwrap_or m 0 ≡ unwrap_or k 0 + total (ls ++ ms) = b.3 ∙ rw (a.3, total-append ls ms, add_assoc) in
        (a.0, (a.1, b.1), records-append (unwrap_or k 0) ls ms ∙ (ap₂ (λ (x y : List ℕ). x ++ y) a.2 e ∙ sym (cut_parts table n p at)), u);
    back = λ g x e.
        let f = sym (records-append (unwrap_or k 0) ls ms) ∙ (e ∙ cut_parts table n p at) in
        let c : length (cut table n at) ≡ n = length_cut table n at in
        let d = append-parts (records_from (unwrap_or k 0) ls) (records_from (unwrap_or k 0 + total ls) ms) (cut table n at) (cut table p (at + n)) n (s.long (unwrap_or k 0)) c f in
        let h = s.back g x.0 d.0 in
        let u = (s.there h).3 in
        t.back h x.1 (rw u d.1);
    long = λ used. rw (records-append used ls ms, length-append, s.long used, t.long (used + total ls));
  }

  -- the same test in other words
  pub retest : {A B : Type 0} {k l : Option ℕ} {at n : ℕ} {ls : List Line} → (A → B) → (B → A) → Segment table A k at n ls l → Segment table B k at n ls l
  retest f g s = record {
    there = λ h. let a = s.there h in (a.0, f a.1, a.2, a.3);
    back = λ h x e. s.back h (g x) e;
    long = s.long;
  }

  -- no records
  none : (k : Option ℕ) (at n : ℕ) (t : Bool) → n ≡ 0 → t ≡ true → Segment table (t ≡ true) k at n [] k
  unfolding records_from cut records_at total
  none k at n t e h = record { there = λ g. (g, h, rw e, sym (add-zero (unwrap_or k 0))); back = λ g x f. g; long = λ used. rw e }

  cut-first : (v at : ℕ) → cut table (suc v) at ≡ table_entry table at ∷ cut table v (at + 1)
  unfolding cut records_at
  cut-first v at = refl

  module _ (ok : ℕ → Bool) (size : ℕ → ℕ) where
    -- one record
    pub record-segment : (k : Option ℕ) (at v : ℕ) (l : Line) → length l.bytes ≡ size at → l.numbers ≡ cut table v (at + 1)
        → Segment table (ok at ≡ true) k at (suc v) (l ∷ []) (record_step table ok size k at)
    unfolding records_from total record_step
    record-segment k at v l sized own = record {
      there = λ h.
          let a = step-there k (ok at) (table_entry table at) (size at) h in
          let u : table_entry table at + size at ≡ unwrap_or k 0 + (length l.bytes + 0) = rw (a.2, sized, add-zero) in
          (a.0, a.1, rw (append-nil, own, ← a.2) (sym (cut-first v at)), a.3 ∙ u);
      back = λ g x e. step-back k (ok at) (table_entry table at) (size at) g x (ap (λ (r : List ℕ). get_or r 0 0) (e ∙ cut-first v at));
      long = λ used. ap length (append-nil (used ∷ l.numbers)) ∙ ap suc (ap length own ∙ length_cut table v (at + 1));
    }

    -- n records
    pub records-segment : (v : ℕ) (line : ℕ → Line) → ((at : ℕ) → length (line at).bytes ≡ size at) → ((at : ℕ) → (line at).numbers ≡ cut table v (at + 1))
        → (n at : ℕ) (k : Option ℕ)
        → Segment table (every ok (records_at (λ (i : ℕ). i) (suc v) n at) ≡ true) k at (suc v * n) (records_at line (suc v) n at) (walk_records table ok size (suc v) n at k)
    unfolding records_at walk_records every
    records-segment v line sized own zero at k = none k at (suc v * 0) true (mul-zero (suc v)) refl
    records-segment v line sized own (suc n) at k =
        let e : suc v * suc n ≡ suc v + suc v * n = rw (mul-suc, add_comm (suc v * n)) in
        let s = join (record-segment k at v (line at) (sized at) (own at)) (records-segment v line sized own n (at + suc v) (record_step table ok size k at)) in
        rw e (retest (λ t. both-and _ _ t.0 t.1) (λ t. and_both _ _ t) s)
