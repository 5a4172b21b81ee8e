-- The laws of layouts: a table of numbers is read back from its bytes, and bytes are written back from the numbers in them.
-- Assumes nothing.
use mathlib.Core.Path.{◌≡◌, refl, sym, ap, ◌∙◌}
use mathlib.Core.List.{List, [], ◌∷◌, ◌++◌, append_assoc}
use Prim.Native.Nat.{ℕ, ◌+◌, ◌≤◌}
use native.Mathlib.Omega.{arith}
use lib.Dec.{lit<}
use lib.ListN.{length, take, drop, replicate, length-append, length-drop, length-replicate}
use lib.Seq.{sets, take_all, take-add, drop-drop, length-take-le}
use Rattle.octets.specs.Le.{to_le, from_le, number_at, Bytes}
use Rattle.octets.specs.Layout.{Field, layout_bytes, layout_at, field_widths, layout_width, LayoutFits}
use Rattle.octets.proofs.LeLaws.{length_to, from-to-fit, to-from, bytes_take, bytes_drop, bytes-append, bytes-to}
use Rattle.octets.proofs.Stores.{sets-append, sets_over}
use Rattle.octets.proofs.Parts.{part-back}

-- a table's bytes are as many as its widths say
pub length-numbers : (fs : List Field) → length (layout_bytes fs) ≡ layout_width (field_widths fs)
unfolding layout_bytes
length-numbers [] = refl
length-numbers (f ∷ fs) = rw (length-append, length_to f.width f.value, length-numbers fs)

-- and are bytes, whatever its numbers
pub layout-bytes : (fs : List Field) → Bytes (layout_bytes fs)
unfolding layout_bytes
layout-bytes [] = λ i. lit< tt
layout-bytes (f ∷ fs) = bytes-append (to_le f.width f.value) (layout_bytes fs) (bytes-to f.width f.value) (layout-bytes fs)

-- the bytes of one number are written back
pub number-back : (s : List ℕ) (at w : ℕ) → Bytes s → at + w ≤ length s → to_le w (number_at s at w) ≡ take w (drop at s)
unfolding number_at
number-back s at w h l =
    let n : w ≤ length (drop at s) = rw (length-drop at s) (omega arith) in
    let e : length (take w (drop at s)) ≡ w = length-take-le w (drop at s) n in
    rw e at (to-from (take w (drop at s)) (bytes_take w (drop at s) (bytes_drop at s h)))

-- the bytes of a table are written back
pub layout-back : (ws s : List ℕ) (at : ℕ) → Bytes s → at + layout_width ws ≤ length s → layout_bytes (layout_at ws s at) ≡ take (layout_width ws) (drop at s)
unfolding layout_bytes layout_at
layout-back [] s at h l = refl
layout-back (w ∷ ws) s at h l =
    rw
    (number-back s at w h (omega arith), layout-back ws s (at + w) h (omega arith), take-add w (layout_width ws) (drop at s), drop-drop w at s)

-- a table's numbers are read back
pub numbers-back : (fs : List Field) (s p t : List ℕ) (at : ℕ) → LayoutFits fs → s ≡ p ++ (layout_bytes fs ++ t) → length p ≡ at → layout_at (field_widths fs) s at ≡ fs
unfolding layout_bytes layout_at number_at
numbers-back [] s p t at h e l = refl
numbers-back (f ∷ fs) s p t at h e l =
    let b = to_le f.width f.value in
    let e₁ : s ≡ p ++ (b ++ (layout_bytes fs ++ t)) = e ∙ simp append_assoc in
    let e₂ : s ≡ (p ++ b) ++ (layout_bytes fs ++ t) = e ∙ simp append_assoc in
    let v : from_le (take f.width (drop at s)) ≡ f.value =
    ap from_le (part-back s p b (layout_bytes fs ++ t) at f.width e₁ l (length_to f.width f.value)) ∙ from-to-fit f.width f.value h.0 in
    let l₂ : length (p ++ b) ≡ at + f.width = rw (length-append p b, l, length_to f.width f.value) in
    rw (v, numbers-back fs s (p ++ b) t (at + f.width) h.1 e₂ l₂)

-- numbers stored one behind another
unfoldable pub store_numbers : List ℕ → ℕ → List Field → List ℕ
store_numbers l at [] = l
store_numbers l at (f ∷ fs) = store_numbers (sets l at (to_le f.width f.value)) (at + f.width) fs

pub numbers-stored : (l : List ℕ) (at : ℕ) (fs : List Field) → store_numbers l at fs ≡ sets l at (layout_bytes fs)
unfolding store_numbers layout_bytes
numbers-stored l at [] = refl
numbers-stored l at (f ∷ fs) =
    numbers-stored (sets l at (to_le f.width f.value)) (at + f.width) fs
    ∙ sets-append l at (to_le f.width f.value) (layout_bytes fs) (at + f.width) (ap (λ (k : ℕ). at + k) (sym (length_to f.width f.value)))

-- the same, by the bytes
pub layout_stored : (l : List ℕ) (at : ℕ) (fs : List Field) → sets l at (layout_bytes fs) ≡ store_numbers l at fs
layout_stored l at fs = sym (numbers-stored l at fs)

-- a table that fills an array of zeros
pub layout_filled : (fs : List Field) → layout_bytes fs ≡ store_numbers (replicate (layout_width (field_widths fs)) 0) 0 fs
layout_filled fs =
    let l : List ℕ = replicate (layout_width (field_widths fs)) 0 in
    let n : length (layout_bytes fs) ≡ length l = length-numbers fs ∙ sym (length-replicate (layout_width (field_widths fs)) 0) in
    sym (numbers-stored l 0 fs ∙ (sets_over l (layout_bytes fs) (omega arith) ∙ take_all (length l) (layout_bytes fs) (omega arith)))
