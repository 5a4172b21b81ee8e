-- A text that no line row refuses says one scene, and is its print.
-- Assumes nothing.
use Rattle.std.specs.Prelude.{Option, Some}
use Prim.Native.Nat.{ℕ, zero, suc, ◌≤◌}
use mathlib.Core.Path.{◌≡◌, refl, sym, ap, ◌∙◌}
use mathlib.Core.Bool.{Bool, true}
use mathlib.Core.List.{List, [], ◌∷◌, ◌++◌, map, append_cancel_right}
use native.Mathlib.Omega.{arith}
use borrow.Author.Tests.{le-leb}
use lib.ListN.{length, replicate}
use Rattle.octets.specs.Lists.{every}
use Rattle.scene_line.specs.declared.kind.Kind.{Kind}
use Rattle.scene_line.specs.declared.kind.Kind.TheVariants as kind
use Rattle.scene_line.specs.Kind.{script, tx, witness, verdicts}
use Rattle.scene_table.specs.Scene.{Scene}
use Rattle.scene_table.specs.Valid.{bytes_ok, hash_bytes_ok, cell_ok, input_ok, output_ok, few_of, digits_ok, scene_ok}
use Rattle.octets.proofs.Truth.{and_left, and_right}
use Rattle.text.specs.Print.{line_text, digits_text}
use Rattle.scene_reading.specs.Lines.{LinesAccepted, kinds_of, kind_of_line, count_ok, form_ok}
use Rattle.scene_reading.specs.Print.{input_text, output_text, dep_text, bytes_text, text_lines, text_of}
use Rattle.scene_reading.specs.Reading.{scene_of}
use Rattle.scene_reading.proofs.PrintBackLines.{text-back, PrintOf, LinePasses, script-line, tx-line, input-line, output-line, dep-line, witness-line, verdicts-line}
use Rattle.scene_reading.proofs.Printed.{printed-pieces, printed-reading}

-- lines of these kinds, none of which a row refuses
data EachPasses : List (List ℕ) → List (Option Kind) → Type 0 where
  none : EachPasses [] []
  more : {l : List ℕ} {k : Option Kind} {ls : List (List ℕ)} {ks : List (Option Kind)} → LinePasses l k → EachPasses ls ks → EachPasses (l ∷ ls) (k ∷ ks)

each-passes : (ls : List (List ℕ)) (ks : List (Option Kind)) → map kind_of_line ls ≡ ks → every count_ok ls ≡ true → every form_ok ls ≡ true → EachPasses ls ks
unfolding every
each-passes [] [] e c f = none
each-passes [] (k ∷ ks) e c f = absurd (let z : ◌≡◌ {A = ℕ} 0 1 = cc in omega arith)
each-passes (l ∷ ls) [] e c f = absurd (let z : ◌≡◌ {A = ℕ} 0 1 = cc in omega arith)
each-passes (l ∷ ls) (k ∷ ks) e c f =
    let a : kind_of_line l ≡ k = cc in
    let b : map kind_of_line ls ≡ ks = cc in
    more (record { is = a; counted = and_left (count_ok l) (every count_ok ls) c; formed = and_left (form_ok l) (every form_ok ls) f })
    (each-passes ls ks b (and_right (count_ok l) (every count_ok ls) c) (and_right (form_ok l) (every form_ok ls) f))

record Parted (ls : List (List ℕ)) (ks js : List (Option Kind)) : Type 0 where
  first : List (List ℕ)
  rest : List (List ℕ)
  whole : first ++ rest ≡ ls
  firsts : EachPasses first ks
  rests : EachPasses rest js

parted : (ls : List (List ℕ)) (ks js : List (Option Kind)) → EachPasses ls (ks ++ js) → Parted ls ks js
parted ls [] js p = record { first = []; rest = ls; whole = refl; firsts = none; rests = p }
parted [] (k ∷ ks) js p = elim p [ ]
parted (l ∷ ls) (k ∷ ks) js (more a p) =
    let q = parted ls ks js p in
    record { first = l ∷ q.first; rest = q.rest; whole = ap (λ (r : List (List ℕ)). l ∷ r) q.whole; firsts = more a q.firsts; rests = q.rests }

-- n lines of one kind
record Segment {A : Type 0} (ok : A → Bool) (text : A → List ℕ) (n : ℕ) (ls : List (List ℕ)) : Type 0 where
  values : List A
  count : length values ≡ n
  fit : every ok values ≡ true
  print : map text values ≡ ls

segment : {A : Type 0} (ok : A → Bool) (text : A → List ℕ) (k : Option Kind) → ((l : List ℕ) → LinePasses l k → PrintOf ok text l)
    → (n : ℕ) {ls : List (List ℕ)} → EachPasses ls (replicate n k) → Segment ok text n ls
unfolding every
segment ok text k line zero none = record { values = []; count = refl; fit = refl; print = refl }
segment ok text k line (suc n) (more p r) =
    let x = line _ p in
    let s = segment ok text k line n r in
    record { values = x.value ∷ s.values; count = rw s.count; fit = rw (x.fits, s.fit); print = rw (x.print, s.print) }

-- what n lines of one kind, at most 64, say behind lines of other kinds
record Behind {A : Type 0} (ok : A → Bool) (text : A → List ℕ) (ks : List (Option Kind)) (ls : List (List ℕ)) : Type 0 where
  first : List (List ℕ)
  firsts : EachPasses first ks
  values : List A
  few : few_of ok values ≡ true
  print : first ++ map text values ≡ ls

behind : {A : Type 0} (ok : A → Bool) (text : A → List ℕ) (k : Option Kind) → ((l : List ℕ) → LinePasses l k → PrintOf ok text l)
    → (n : ℕ) → n ≤ 64 → (ks : List (Option Kind)) (ls : List (List ℕ)) → EachPasses ls (ks ++ replicate n k) → Behind ok text ks ls
unfolding few_of
behind ok text k line n h ks ls p =
    let q = parted ls ks (replicate n k) p in
    let s = segment ok text k line n q.rests in
    record {
      first = q.first;
      firsts = q.firsts;
      values = s.values;
      few = rw (s.count, le-leb n 64 h, s.fit);
      print = rw s.print q.whole;
    }

-- the first two lines
record Front (ls : List (List ℕ)) : Type 0 where
  bytes : List ℕ
  hash : List ℕ
  bytes_fit : bytes_ok bytes ≡ true
  hash-fits : hash_bytes_ok hash ≡ true
  print : bytes_text script bytes ∷ bytes_text tx hash ∷ [] ≡ ls

front : {ls : List (List ℕ)} → EachPasses ls (Some kind.Script ∷ Some kind.Tx ∷ []) → Front ls
front (more p (more q none)) =
    let x = script-line _ p in
    let y = tx-line _ q in
    record { bytes = x.value; hash = y.value; bytes_fit = x.fits; hash-fits = y.fits; print = rw (x.print, y.print) }

-- the last line
record Last (ls : List (List ℕ)) : Type 0 where
  digits : List ℕ
  fit : digits_ok digits ≡ true
  print : line_text verdicts (digits_text digits ∷ []) ∷ [] ≡ ls

last : {ls : List (List ℕ)} → EachPasses ls (Some kind.Verdicts ∷ []) → Last ls
last (more p none) = let x = verdicts-line _ p in record { digits = x.value; fit = x.fits; print = ap (λ (y : List ℕ). y ∷ []) x.print }

-- a scene whose print the lines are
record Said (ls : List (List ℕ)) : Type 0 where
  scene : Scene
  fits : scene_ok scene ≡ true
  print : text_lines scene ≡ ls

join : {a b ls : List (List ℕ)} (c : List (List ℕ)) → a ≡ b → b ++ c ≡ ls → a ++ c ≡ ls
join c e w = ap (λ (x : List (List ℕ)). x ++ c) e ∙ w

said-by : {ls : List (List ℕ)} {k₁ k₂ k₃ k₄ : List (Option Kind)} (v : Parted ls k₄ (Some kind.Verdicts ∷ [])) (w : Behind bytes_ok (bytes_text witness) k₃ v.first)
    (d : Behind cell_ok dep_text k₂ w.first) (o : Behind output_ok output_text k₁ d.first)
    (i : Behind input_ok input_text (Some kind.Script ∷ Some kind.Tx ∷ []) o.first) → Said ls
unfolding scene_ok text_lines
said-by v w d o i =
    let head = front i.firsts in
    let end = last v.rests in
    let inputs = join (map input_text i.values) head.print i.print in
    let outputs = join (map output_text o.values) inputs o.print in
    let deps = join (map dep_text d.values) outputs d.print in
    let witnesses = join (map (bytes_text witness) w.values) deps w.print in
    record {
      scene = record {
        script = head.bytes;
        transaction = head.hash;
        inputs = i.values;
        outputs = o.values;
        deps = d.values;
        witnesses = w.values;
        digits = end.digits;
      };
      fits = rw (head.bytes_fit, head.hash-fits, i.few, o.few, d.few, w.few, end.fit);
      print = join (line_text verdicts (digits_text end.digits ∷ []) ∷ []) witnesses (rw end.print v.whole);
    }

said : (text : List ℕ) (n : ℕ) (p : LinesAccepted text n) → Said p.lines
unfolding kinds_of
said text n p =
    let K₀ = Some kind.Script ∷ Some kind.Tx ∷ [] in
    let K₁ = K₀ ++ replicate p.inputs (Some kind.Input) in
    let K₂ = K₁ ++ replicate p.outputs (Some kind.Output) in
    let K₃ = K₂ ++ replicate p.deps (Some kind.Dep) in
    let K₄ = K₃ ++ replicate p.witnesses (Some kind.Witness) in
    let v = parted p.lines K₄ (Some kind.Verdicts ∷ []) (each-passes p.lines (K₄ ++ (Some kind.Verdicts ∷ [])) p.ordered p.counted p.formed) in
    let w = behind bytes_ok (bytes_text witness) (Some kind.Witness) witness-line p.witnesses p.few-witnesses K₃ v.first v.firsts in
    let d = behind cell_ok dep_text (Some kind.Dep) dep-line p.deps p.few-deps K₂ w.first w.firsts in
    let o = behind output_ok output_text (Some kind.Output) output-line p.outputs p.few-outputs K₁ d.first d.firsts in
    let i = behind input_ok input_text (Some kind.Input) input-line p.inputs p.few-inputs K₀ o.first o.firsts in
    said-by v w d o i

-- what an accepted text says is a scene that a text can say
pub reading-ok : (text : List ℕ) (n : ℕ) (p : LinesAccepted text n) → scene_ok (scene_of p.lines) ≡ true
reading-ok text n p =
    let s = said text n p in
    rw (← s.print, printed-reading s.scene s.fits) s.fits

-- its lines are the lines of that scene's print
pub lines-back : (text : List ℕ) (n : ℕ) (p : LinesAccepted text n) → text_lines (scene_of p.lines) ≡ p.lines
lines-back text n p =
    let s = said text n p in
    rw (← s.print, printed-reading s.scene s.fits)

pub print-back : (text : List ℕ) (n : ℕ) (p : LinesAccepted text n) → text_of (scene_of p.lines) ≡ text
unfolding text_of
print-back text n p = rw (lines-back text n p) (text-back text p.lines p.ended)

-- and it is the only scene whose print the text is
pub scene-one : (text : List ℕ) (n : ℕ) (p : LinesAccepted text n) (s : Scene) → scene_ok s ≡ true → text_of s ≡ text → s ≡ scene_of p.lines
scene-one text n p s ok e =
    let same : text_lines s ++ ([] ∷ []) ≡ p.lines ++ ([] ∷ []) = sym (printed-pieces s ok) ∙ (rw e p.ended) in
    sym (printed-reading s ok) ∙ ap scene_of (append_cancel_right (text_lines s) p.lines ([] ∷ []) same)
