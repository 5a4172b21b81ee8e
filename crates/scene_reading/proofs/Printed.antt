-- The printed text of a scene that a text can say: no line row refuses it, and it says that scene.
-- Assumes nothing.
use Rattle.std.specs.Prelude.{Option, Some}
use Prim.Native.Nat.{ℕ, ◌≤◌}
use mathlib.Core.Path.{◌≡◌, refl, ap, ◌∙◌}
use mathlib.Core.Bool.{Bool, true, false, cond}
use mathlib.Core.List.{List, [], ◌∷◌, ◌++◌, map}
use native.Mathlib.Omega.{arith}
use lib.ListN.{length}
use lib.Dec.{eqb}
use Rattle.octets.specs.Lists.{every}
use Rattle.text.specs.Text.{pieces, hex_bytes, hex_val, line_end}
use Rattle.scene_line.specs.declared.kind.Kind.{Kind}
use Rattle.scene_line.specs.declared.kind.Kind.TheVariants as kind
use Rattle.scene_line.specs.Kind.{rank, witness}
use Rattle.scene_table.specs.Scene.{Scene, Line, bytes_line, input_line, output_line, cell_line, lines_of, scene_bytes}
use Rattle.scene_table.specs.Valid.{bytes_ok, cell_ok, input_ok, output_ok, scene_ok}
use Rattle.octets.proofs.Truth.{and_left, and_right}
use Rattle.text.specs.Print.{hex_text, digits_text}
use Rattle.scene_reading.specs.Lines.{kinds_of, bytes_of_line, LinesAccepted}
use Rattle.scene_reading.specs.Print.{cell_fields, input_fields, output_fields, input_text, output_text, dep_text, bytes_text, text_lines, text_of}
use Rattle.scene_reading.specs.Reading.{cell_of, input_of, output_of, bytes_field, fields_of_kind, only_field, scene_of}
use Rattle.scene_reading.proofs.LinesPut.{line_in, line_read}
use Rattle.scene_table.proofs.Lines.{right-nested}
use Rattle.scene_table.proofs.SceneBack.{Sayable, sayable}
use Rattle.scene_reading.proofs.PrintPieces.{lines-pieces}
use Rattle.scene_reading.proofs.PrintDigits.{hex-back, digits-back}
use Rattle.scene_reading.proofs.PrintFields.{hash-holds, cell_holds, output-holds, output-back, input-holds, input-fields-back}
use Rattle.scene_reading.proofs.PrintLines.{Says, bytes-says, input-says, output-says, dep-says, dep-back, digits-says, bytes-prints, hash-prints, input-prints, output-prints, dep-prints, digits-prints, EachPrints, none, more, each-prints-append, each_map, each-printed}

-- each line of the printed text, with its kind and with what it holds
pub scene-prints : (s : Scene) → Sayable s
    → EachPrints (text_lines s) (kinds_of (length s.inputs) (length s.outputs) (length s.deps) (length s.witnesses)) (lines_of s)
unfolding text_lines kinds_of lines_of
scene-prints s h =
    let verdict = more (digits-prints s.digits (record { few = h.few_digits; each = h.digits })) none in
    let inputs = each_map input_ok input_text (Some kind.Input) input_line (λ i e. input-prints i (input-holds i e)) s.inputs h.inputs in
    let outputs = each_map output_ok output_text (Some kind.Output) output_line (λ o e. output-prints o (output-holds o e)) s.outputs h.outputs in
    let deps = each_map cell_ok dep_text (Some kind.Dep) cell_line (λ c e. dep-prints c (cell_holds c e)) s.deps h.deps in
    let witnesses = each_map bytes_ok (bytes_text witness) (Some kind.Witness) bytes_line (bytes-prints (Some kind.Witness) refl refl) s.witnesses h.witnesses in
    let head = more (bytes-prints (Some kind.Script) refl refl s.script h.script) (more (hash-prints s.transaction (hash-holds s.transaction h.transaction)) inputs) in
    each-prints-append (each-prints-append (each-prints-append (each-prints-append head outputs) deps) witnesses) verdict

-- the bytes of lines are those that the reader puts down
pub line-bytes : (ls : List (List ℕ)) → map bytes_of_line ls ≡ map (λ (l : Line). l.bytes) (map line_read ls)
unfolding bytes_of_line line_read line_in
line-bytes [] = refl
line-bytes (l ∷ ls) = ap (λ (t : List (List ℕ)). bytes_of_line l ∷ t) (line-bytes ls)

-- the printed text is cut into its lines
pub printed-pieces : (s : Scene) → scene_ok s ≡ true → pieces line_end (text_of s) ≡ text_lines s ++ ([] ∷ [])
unfolding text_of
printed-pieces s ok = lines-pieces (text_lines s) (each-printed (scene-prints s (sayable s ok))).ended

-- no line row refuses it
unfoldable pub printed-passes : (s : Scene) (n : ℕ) → scene_ok s ≡ true → length (scene_bytes s) ≤ n → LinesAccepted (text_of s) n
unfolding scene_bytes
printed-passes s n ok room =
    let h = sayable s ok in
    let r = each-printed (scene-prints s h) in
    record {
      lines = text_lines s;
      inputs = length s.inputs;
      outputs = length s.outputs;
      deps = length s.deps;
      witnesses = length s.witnesses;
      ended = printed-pieces s ok;
      ordered = r.ordered;
      counted = r.counted;
      few-inputs = h.few_inputs;
      few-outputs = h.few_outputs;
      few-deps = h.few_deps;
      few-witnesses = h.few_witnesses;
      formed = r.formed;
      room = rw (line-bytes (text_lines s), r.read) room;
    }

-- its lines are the printed ones
pub printed-lines : (s : Scene) (n : ℕ) (ok : scene_ok s ≡ true) (room : length (scene_bytes s) ≤ n) → (printed-passes s n ok room).lines ≡ text_lines s
unfolding printed-passes
printed-lines s n ok room = refl

-- the fields of lines of kind j, where those of kind k are asked for
given : Option Kind → Option Kind → List (List (List ℕ)) → List (List (List ℕ))
given j k fss = cond (eqb (rank j) (rank k)) fss []

module _ (k : Option Kind) where
  -- a line gives its fields to its kind
  line_gives : (l : List ℕ) (j : Option Kind) (fs : List (List ℕ)) (ls : List (List ℕ)) → Says l j fs
      → fields_of_kind k (l ∷ ls) ≡ given j k (fs ∷ []) ++ fields_of_kind k ls
  unfolding fields_of_kind given
  line_gives l j fs ls says = rw (says.kind, says.fields) (go (eqb (rank j) (rank k)) (fields_of_kind k ls))
    where
      go : (b : Bool) (rest : List (List (List ℕ))) → cond b (fs ∷ rest) rest ≡ cond b (fs ∷ []) [] ++ rest
      go true rest = refl
      go false rest = refl

  -- and so do lines of one kind
  lines-give : {A : Type 0} (ok : A → Bool) (text : A → List ℕ) (j : Option Kind) (fields : A → List (List ℕ)) → ((x : A) → ok x ≡ true → Says (text x) j (fields x))
      → (xs : List A) → every ok xs ≡ true → (ls : List (List ℕ)) → fields_of_kind k (map text xs ++ ls) ≡ given j k (map fields xs) ++ fields_of_kind k ls
  unfolding every given
  lines-give ok text j fields says [] h ls = none-given (eqb (rank j) (rank k))
    where
      none-given : (b : Bool) → fields_of_kind k ls ≡ cond b [] [] ++ fields_of_kind k ls
      none-given true = refl
      none-given false = refl
  lines-give ok text j fields says (x ∷ xs) h ls =
      line_gives (text x) j (fields x) (map text xs ++ ls) (says x (and_left (ok x) (every ok xs) h))
      ∙ rw (lines-give ok text j fields says xs (and_right (ok x) (every ok xs) h) ls) (go (eqb (rank j) (rank k)))
    where
      go : (b : Bool) → cond b (fields x ∷ []) [] ++ (cond b (map fields xs) [] ++ fields_of_kind k ls) ≡ cond b (fields x ∷ map fields xs) [] ++ fields_of_kind k ls
      go true = refl
      go false = refl

-- the only field of a line of bytes
bytes_fields : List ℕ → List (List ℕ)
bytes_fields bytes = hex_text bytes ∷ []

-- the fields of each kind in the printed text
printed-fields : (s : Scene) → Sayable s → (k : Option Kind) → fields_of_kind k (text_lines s)
    ≡ given (Some kind.Script) k (bytes_fields s.script ∷ [])
    ++ (given (Some kind.Tx) k (bytes_fields s.transaction ∷ [])
    ++ (given (Some kind.Input) k (map input_fields s.inputs)
    ++ (given (Some kind.Output) k (map output_fields s.outputs)
    ++ (given (Some kind.Dep) k (map cell_fields s.deps)
    ++ (given (Some kind.Witness) k (map bytes_fields s.witnesses) ++ (given (Some kind.Verdicts) k ((digits_text s.digits ∷ []) ∷ []) ++ []))))))
unfolding text_lines bytes_fields fields_of_kind
printed-fields s h k =
    rw (
      line_gives k _ _ _ _ (bytes-says (Some kind.Script) s.script h.script),
      line_gives k _ _ _ _ (bytes-says (Some kind.Tx) s.transaction (hash-holds s.transaction h.transaction).bytes),
      right-nested (map input_text s.inputs) (map output_text s.outputs) (map dep_text s.deps) (map (bytes_text witness) s.witnesses) _,
      lines-give k input_ok input_text (Some kind.Input) input_fields (λ i e. input-says i (input-holds i e)) s.inputs h.inputs,
      lines-give k output_ok output_text (Some kind.Output) output_fields (λ o e. output-says o (output-holds o e)) s.outputs h.outputs,
      lines-give k cell_ok dep_text (Some kind.Dep) cell_fields (λ c e. dep-says c (cell_holds c e)) s.deps h.deps,
      lines-give k bytes_ok (bytes_text witness) (Some kind.Witness) bytes_fields (bytes-says (Some kind.Witness)) s.witnesses h.witnesses,
      line_gives k _ _ _ _ (digits-says s.digits (record { few = h.few_digits; each = h.digits })),
    )

-- the values of printed fields are the values that were printed
values-back : {A : Type 0} (ok : A → Bool) (fields : A → List (List ℕ)) (value : List (List ℕ) → A) → ((x : A) → ok x ≡ true → value (fields x) ≡ x)
    → (xs : List A) → every ok xs ≡ true → map value (map fields xs ++ []) ≡ xs
unfolding every
values-back ok fields value back [] h = refl
values-back ok fields value back (x ∷ xs) h =
    rw (back x (and_left (ok x) (every ok xs) h), values-back ok fields value back xs (and_right (ok x) (every ok xs) h))

-- and it says the scene, part by part
pub printed-reading : (s : Scene) → scene_ok s ≡ true → scene_of (text_lines s) ≡ s
unfolding scene_of given only_field bytes_field bytes_fields
printed-reading s ok =
    let h = sayable s ok in
    let fields = printed-fields s h in
    let script = ap (λ (f : List (List (List ℕ))). hex_bytes (only_field f)) (fields (Some kind.Script)) ∙ hex-back s.script h.script in
    let transaction = ap (λ (f : List (List (List ℕ))). hex_bytes (only_field f)) (fields (Some kind.Tx)) ∙ hex-back s.transaction (hash-holds s.transaction h.transaction).bytes in
    let inputs = ap (map input_of) (fields (Some kind.Input)) ∙ values-back input_ok input_fields input_of (λ i e. input-fields-back i (input-holds i e)) s.inputs h.inputs in
    let outputs = ap (map output_of) (fields (Some kind.Output)) ∙ values-back output_ok output_fields output_of (λ o e. output-back o (output-holds o e)) s.outputs h.outputs in
    let deps = ap (map (cell_of 0)) (fields (Some kind.Dep)) ∙ values-back cell_ok cell_fields (cell_of 0) (λ c e. dep-back c (cell_holds c e)) s.deps h.deps in
    let witnesses = ap (map bytes_field) (fields (Some kind.Witness)) ∙ values-back bytes_ok bytes_fields bytes_field hex-back s.witnesses h.witnesses in
    let digits = ap (λ (f : List (List (List ℕ))). map hex_val (only_field f)) (fields (Some kind.Verdicts)) ∙ digits-back 3 (omega arith) s.digits h.digits in
    λ i. record {
      script = script i;
      transaction = transaction i;
      inputs = inputs i;
      outputs = outputs i;
      deps = deps i;
      witnesses = witnesses i;
      digits = digits i;
    }
