-- Where lines stand: their records in a table, their bytes in a store; and records read back.
-- Assumes nothing.
use mathlib.Core.Path.{◌≡◌, refl, sym, ap, ap₂, ◌∙◌}
use mathlib.Core.Bool.{Bool, true}
use mathlib.Core.List.{List, [], ◌∷◌, ◌++◌, map, append_assoc, append-nil}
use Prim.Native.Nat.{ℕ, suc, ◌+◌, ◌*◌, ◌/◌, ◌%◌, ◌^◌, ◌<◌}
use native.Mathlib.Nat.{add_comm, mul-suc, mul-zero}
use native.Mathlib.Omega.{arith}
use lib.ListN.{length, get_or, length-append, get_or-append}
use lib.Seq.{get_or-append-add, get_or_at}
use Rattle.octets.specs.Lists.{joined, every}
use Rattle.scene_table.specs.Scene.{Line, records_from}
use Rattle.scene_table.specs.Lent.{table_entry, table_u64, records_at}
use Rattle.scene_table.proofs.Lines.{total, total-joined, records-append}
use Rattle.octets.proofs.Truth.{and_both}

-- the bytes of lines
unfoldable pub lines_bytes : List Line → List ℕ
lines_bytes ls = joined (map (λ (l : Line). l.bytes) ls)

pub lines-bytes-append : (ls ms : List Line) → lines_bytes (ls ++ ms) ≡ lines_bytes ls ++ lines_bytes ms
unfolding lines_bytes joined
lines-bytes-append [] ms = refl
lines-bytes-append (l ∷ ls) ms = rw (lines-bytes-append ls ms) (sym (append_assoc l.bytes (joined (map (λ (l : Line). l.bytes) ls)) (joined (map (λ (l : Line). l.bytes) ms))))

-- lines whose records begin at entry `at` and whose bytes begin at offset `used`
pub record Stands (table store : List ℕ) (at used : ℕ) (ls : List Line) : Type 0 where
  pub before : List ℕ
  pub after : List ℕ
  pub front : List ℕ
  pub back : List ℕ
  pub records : table ≡ before ++ (records_from used ls ++ after)
  pub place : length before ≡ at
  pub bytes : store ≡ front ++ (lines_bytes ls ++ back)
  pub start : length front ≡ used

module _ (table store : List ℕ) where
  -- the first lines, and those behind them
  pub stands-left : {at used : ℕ} (ls ms : List Line) → Stands table store at used (ls ++ ms) → Stands table store at used ls
  stands-left {at} {used} ls ms s = record {
    before = s.before;
    after = records_from (used + total ls) ms ++ s.after;
    front = s.front;
    back = lines_bytes ms ++ s.back;
    records = s.records ∙ ap (λ (r : List ℕ). s.before ++ r) (ap (λ (r : List ℕ). r ++ s.after) (records-append used ls ms) ∙ append_assoc (records_from used ls) (records_from (used + total ls) ms) s.after);
    place = s.place;
    bytes = s.bytes ∙ ap (λ (r : List ℕ). s.front ++ r) (ap (λ (r : List ℕ). r ++ s.back) (lines-bytes-append ls ms) ∙ append_assoc (lines_bytes ls) (lines_bytes ms) s.back);
    start = s.start;
  }

  pub stands-right : {at used : ℕ} (ls ms : List Line) (n : ℕ) → length (records_from used ls) ≡ n → Stands table store at used (ls ++ ms) → Stands table store (at + n) (used + total ls) ms
  unfolding lines_bytes stands-left
  stands-right {at} {used} ls ms n long s =
      let t = stands-left ls ms s in
      record {
        before = s.before ++ records_from used ls;
        after = s.after;
        front = s.front ++ lines_bytes ls;
        back = s.back;
        records = t.records ∙ sym (append_assoc s.before (records_from used ls) (records_from (used + total ls) ms ++ s.after));
        place = rw (length-append, s.place, long);
        bytes = t.bytes ∙ sym (append_assoc s.front (lines_bytes ls) (lines_bytes ms ++ s.back));
        start = rw (length-append, s.start, total-joined ls);
      }

  -- the entries of one line's record, and its bytes
  pub record-first : {at used : ℕ} {l : Line} → Stands table store at used (l ∷ []) → table_entry table at ≡ used
  unfolding table_entry records_from
  record-first {at} {used} {l} s = ap (λ (r : List ℕ). get_or r at 0) s.records ∙ get_or_at s.before used _ 0 at s.place

  pub record-entry : {at used : ℕ} {l : Line} (i : ℕ) → i < length l.numbers → Stands table store at used (l ∷ []) → table_entry table (at + suc i) ≡ get_or l.numbers i 0
  unfolding table_entry records_from
  record-entry {at} {used} {l} i h s =
      rw (s.records, ← s.place, get_or-append-add s.before ((used ∷ l.numbers) ++ [] ++ s.after) (suc i) 0)
      (ap (λ (r : List ℕ). get_or (r ++ s.after) i 0) (append-nil l.numbers) ∙ get_or-append l.numbers s.after 0 i h)

  -- a u64 whose halves stand in the record
  pub record-u64 : {at used : ℕ} {l : Line} (i n : ℕ) → suc i < length l.numbers → get_or l.numbers i 0 ≡ n % 2 ^ 32 → get_or l.numbers (suc i) 0 ≡ n / 2 ^ 32
      → Stands table store at used (l ∷ []) → table_u64 table (at + suc i) ≡ n
  record-u64 {at} {used} {l} i n h low high s =
      let next : at + suc i + 1 ≡ at + suc (suc i) = omega arith in
      let whole : n % 2 ^ 32 + 2 ^ 32 * (n / 2 ^ 32) ≡ n = omega arith in
      rw (next, record-entry {l = l} i (omega arith) s, record-entry {l = l} (suc i) h s, low, high) whole

  pub record-bytes : {at used : ℕ} {l : Line} (s : Stands table store at used (l ∷ [])) → store ≡ s.front ++ (l.bytes ++ s.back)
  unfolding lines_bytes joined
  record-bytes {at} {used} {l} s = s.bytes ∙ ap (λ (r : List ℕ). s.front ++ (r ++ s.back)) (append-nil l.bytes)

module _ {A : Type 0} (line : A → Line) (w : ℕ) (wide : (x : A) → suc (length (line x).numbers) ≡ w) where
  -- how many entries records of one kind have
  pub records-long : (xs : List A) (used : ℕ) → length (records_from used (map line xs)) ≡ w * length xs
  unfolding records_from
  records-long [] used = sym (mul-zero w)
  records-long (x ∷ xs) used =
      let e : suc (length (line x).numbers) ≡ w = wide x in
      let r = records-long xs (used + length (line x).bytes) in
      length-append (used ∷ (line x).numbers) (records_from (used + length (line x).bytes) (map line xs)) ∙ rw (e, r, mul-suc) (add_comm w (w * length xs))

  -- records of one kind are read back
  pub records-back : {B : Type 0} (table store : List ℕ) (read : ℕ → B) (image : A → B) (ok : A → Bool)
      → ((x : A) (at used : ℕ) → ok x ≡ true → Stands table store at used (line x ∷ []) → read at ≡ image x)
      → (xs : List A) (at used : ℕ) → every ok xs ≡ true → Stands table store at used (map line xs) → records_at read w (length xs) at ≡ map image xs
  unfolding every records_at
  records-back table store read image ok one [] at used h s = refl
  records-back table store read image ok one (x ∷ xs) at used h s =
      let a = and_both (ok x) (every ok xs) h in
      let t = stands-right table store (line x ∷ []) (map line xs) w (record-long x used) s in
      ap₂ (λ (b : _) (bs : List _). b ∷ bs)
      (one x at used a.0 (stands-left table store (line x ∷ []) (map line xs) s))
      (records-back table store read image ok one xs (at + w) (used + total (line x ∷ [])) a.1 t)
    where
      record-long : (x : A) (used : ℕ) → length (records_from used (line x ∷ [])) ≡ w
      record-long x used = records-long (x ∷ []) used ∙ rw mul-suc (rw mul-zero (omega arith))
