-- 02, change 12: "Equal sighash inputs mean equal transaction hash, equal canonical first witness and equal joined row of the other
-- witnesses"; "Equal digest inputs mean equal operation, account, sequence, state hash and sighash."
-- Assumes nothing.
use mathlib.Core.Path.{◌≡◌, refl, sym, ap, ◌∙◌}
use mathlib.Core.Bool.{true}
use mathlib.Core.List.{List, [], ◌∷◌, ◌++◌, map, append_assoc}
use Prim.Native.Nat.{ℕ, ◌^◌, ◌<◌}
use native.Mathlib.Omega.{arith}
use borrow.Author.Tests.{ltb-true}
use lib.Dec.{ltb}
use lib.ListN.{length, get_or, length-append}
use Rattle.octets.specs.Le.{to_le, from_le}
use Rattle.octets.specs.Lists.{joined, every}
use Rattle.octets.proofs.Every.{every-split}
use Rattle.octets.proofs.LeLaws.{length_to, from-to-fit}
use Rattle.blake2b.specs.State.{ckb_hash}
use Rattle.authorization.specs.Digest.{auth_domain, digest_head, digest_input}
use Rattle.authorization.specs.Hashed.{hashed_witness}
use Rattle.authorization.specs.Sighash.{hashed_witnesses, sighash_input}
use Rattle.authorization.proofs.SighashTheorem.{hashed_length}
use Rattle.scene_table.proofs.Lines.{append-parts}
use Rattle.blake2b.proofs.Bytes.{length-hash}
use Rattle.digest_coverage.specs.Coverage.{SighashParts, sighash_input_of, SighashSizes, DigestParts, digest_parts_of}

-- the bytes of a u64 say which it is
u64-one : (n m : ℕ) → n < 2 ^ 64 → m < 2 ^ 64 → to_le 8 n ≡ to_le 8 m → n ≡ m
u64-one n m a b e = sym (from-to-fit 8 n (omega arith)) ∙ (ap from_le e ∙ from-to-fit 8 m (omega arith))

-- ---- a sighash input

-- the length in front of a witness says where it ends
witness-parts : (v w x y : List ℕ) → length v < 2 ^ 64 → length w < 2 ^ 64 → hashed_witness v ++ x ≡ hashed_witness w ++ y → (v ≡ w) × (x ≡ y)
unfolding hashed_witness
witness-parts v w x y a b e =
    let z = append-parts (to_le 8 (length v)) (v ++ x) (to_le 8 (length w)) (w ++ y) 8 (length_to 8 (length v)) (length_to 8 (length w))
    (sym (append_assoc (to_le 8 (length v)) v x) ∙ (e ∙ append_assoc (to_le 8 (length w)) w y)) in
    append-parts v x w y (length w) (u64-one (length v) (length w) a b z.0) refl z.1

-- a row of witnesses, none of which is too long, is the only one with its bytes
abbrev Counted : List (List ℕ) → Type 0
Counted ws = every (λ (w : List ℕ). ltb (length w) (2 ^ 64)) ws ≡ true

row_one : (vs ws : List (List ℕ)) → Counted vs → Counted ws → hashed_witnesses vs ≡ hashed_witnesses ws → vs ≡ ws
unfolding hashed_witnesses joined
row_one [] [] a b e = refl
row_one [] (w ∷ ws) a b e = absurd (let n = ap length e in omega (arith, length-append (hashed_witness w) (joined (map hashed_witness ws)), hashed_length w))
row_one (v ∷ vs) [] a b e = absurd (let n = ap length e in omega (arith, length-append (hashed_witness v) (joined (map hashed_witness vs)), hashed_length v))
row_one (v ∷ vs) (w ∷ ws) a b e =
    let f = every-split _ v vs a in
    let g = every-split _ w ws b in
    let z = witness-parts v w (hashed_witnesses vs) (hashed_witnesses ws) (ltb-true _ _ f.0) (ltb-true _ _ g.0) e in
    rw (z.0, row_one vs ws f.1 g.1 z.1)

-- equal sighash inputs have equal parts
pub sighash-covers : (p q : SighashParts) → SighashSizes p → SighashSizes q → sighash_input_of p ≡ sighash_input_of q → p ≡ q
unfolding sighash_input_of sighash_input
sighash-covers p q a b e =
    let head = append-parts p.transaction _ q.transaction _ 32 a.transaction b.transaction
    (sym (append_assoc p.transaction _ _) ∙ (e ∙ append_assoc q.transaction _ _)) in
    let tail = witness-parts p.first q.first _ _ a.first b.first head.1 in
    rw (head.0, tail.0, row_one p.others q.others a.others b.others tail.1)

-- ---- a digest input

-- its parts, from left to right
input-parts : (o n : ℕ) (a s h : List ℕ) → digest_input o a n s h ≡ auth_domain ++ (o ∷ (a ++ (to_le 8 n ++ (ckb_hash s ++ h))))
unfolding digest_input digest_head auth_domain
input-parts o n a s h = simp append_assoc

-- the five parts one by one
parts_same : {o p n m : ℕ} {a b x y h k : List ℕ} → o ≡ p → a ≡ b → n ≡ m → x ≡ y → h ≡ k
    → ◌≡◌ {A = DigestParts} (record { operation = o; account = a; sequence = n; state_hash = x; sighash = h })
    (record { operation = p; account = b; sequence = m; state_hash = y; sighash = k })
parts_same p q r s t = rw (p, q, r, s, t)

-- equal digest inputs have equal parts, for accounts of 32 bytes and sequences that a u64 holds
pub digest-covers : (o p n m : ℕ) (a b s t h k : List ℕ) → length a ≡ 32 → length b ≡ 32 → n < 2 ^ 64 → m < 2 ^ 64
    → digest_input o a n s h ≡ digest_input p b m t k → digest_parts_of o a n s h ≡ digest_parts_of p b m t k
unfolding digest_parts_of
digest-covers o p n m a b s t h k la lb ln lm e =
    let domain = append-parts auth_domain _ auth_domain _ (length auth_domain) refl refl (sym (input-parts o n a s h) ∙ (e ∙ input-parts p m b t k)) in
    let operation = append-parts (o ∷ []) _ (p ∷ []) _ 1 refl refl domain.1 in
    let account = append-parts a _ b _ 32 la lb operation.1 in
    let sequence = append-parts (to_le 8 n) _ (to_le 8 m) _ 8 (length_to 8 n) (length_to 8 m) account.1 in
    let state = append-parts (ckb_hash s) h (ckb_hash t) k 32 (length-hash s) (length-hash t) sequence.1 in
    let first : o ≡ p = ap (λ (l : List ℕ). get_or l 0 0) operation.0 in
    parts_same first account.0 (u64-one n m ln lm sequence.0) state.0 state.1
