-- A number among a list of numbers, tested; and rows whose refusals all have numbers of a list.
-- Assumes nothing.
use Rattle.std.specs.Prelude.{Err, Ok}
use mathlib.Core.Path.{◌≡◌, refl, sym, ◌∙◌}
use mathlib.Core.Logic.{◌≢◌}
use mathlib.Core.Bool.{Bool, true, false, not, ◌&&◌, ◌||◌, false≢true}
use mathlib.Core.List.{List, [], ◌∷◌, ◌++◌, Memᴰ}
use Prim.Native.Nat.{ℕ}
use lib.Dec.{eqb}
use borrow.Author.Tests.{eqb-true, eq-eqb}
use Rattle.octets.proofs.Truth.{and_left, and_right}
use Rattle.protocol.specs.Errors.{error_number}
use Rattle.protocol.specs.Rows.{Row, decide, check_number, Check}
use Rattle.protocol.specs.declared.error.ProtocolError.{ProtocolError}
use Rattle.protocol.proofs.Each.{Each, Refuses, each_append, each_more, each-refuses}

-- n is one of the numbers
abbrev pub one_of : List ℕ → ℕ → Bool
one_of [] n = false
one_of (m ∷ ms) n = eqb n m || one_of ms n

or_left : (a b : Bool) → a ≡ true → (a || b) ≡ true
or_left a b e = rw e

or_right : (a b : Bool) → b ≡ true → (a || b) ≡ true
or_right true b e = refl
or_right false b e = e

-- the test says that it is a member
pub one-of-member : (ns : List ℕ) (n : ℕ) → one_of ns n ≡ true → Memᴰ n ns
one-of-member [] n h = absurd (false≢true h)
one-of-member (m ∷ ms) n h = go (eqb n m) refl (one-of-member ms n) h
  where
    go : (b : Bool) → eqb n m ≡ b → (one_of ms n ≡ true → Memᴰ n ms) → (b || one_of ms n) ≡ true → Memᴰ n (m ∷ ms)
    go true e later t = Memᴰ.head (eqb-true n m e)
    go false e later t = Memᴰ.tail (later t)

one-of-of-member : (n : ℕ) (ns : List ℕ) → Memᴰ n ns → one_of ns n ≡ true
one-of-of-member n ns (Memᴰ.head {x} {xs} e) = or_left (eqb n x) (one_of xs n) (eq-eqb n x e)
one-of-of-member n ns (Memᴰ.tail {x} {xs} m) = or_right (eqb n x) (one_of xs n) (one-of-of-member n xs m)

pub member-one-of : (ns : List ℕ) (n : ℕ) → Memᴰ n ns → one_of ns n ≡ true
member-one-of ns n m = one-of-of-member n ns m

-- a number of the list is none that is not
pub not-one-of : (ns : List ℕ) (m n : ℕ) → one_of ns m ≡ true → one_of ns n ≡ false → m ≢ n
not-one-of ns m n h k e = false≢true (sym k ∙ (rw e at h))

-- every number of a list is one of another
abbrev pub within : List ℕ → List ℕ → Bool
within [] ms = true
within (n ∷ ns) ms = one_of ms n && within ns ms

pub one-of-within : (ns ms : List ℕ) (n : ℕ) → within ns ms ≡ true → one_of ns n ≡ true → one_of ms n ≡ true
one-of-within [] ms n w h = absurd (false≢true h)
one-of-within (k ∷ ns) ms n w h =
    go (eqb n k) refl (one-of-within ns ms n (and_right (one_of ms k) (within ns ms) w)) h
  where
    go : (b : Bool) → eqb n k ≡ b → (one_of ns n ≡ true → one_of ms n ≡ true) → (b || one_of ns n) ≡ true → one_of ms n ≡ true
    go true e later t = rw (eqb-true n k e) (and_left (one_of ms k) (within ns ms) w)
    go false e later t = later t

-- every number that two lists share is one of a third
abbrev pub shared : List ℕ → List ℕ → List ℕ → Bool
shared [] ms ls = true
shared (n ∷ ns) ms ls = (not (one_of ms n) || one_of ls n) && shared ns ms ls

pub one-of-shared : (ns ms ls : List ℕ) (n : ℕ) → shared ns ms ls ≡ true → one_of ns n ≡ true → one_of ms n ≡ true → one_of ls n ≡ true
one-of-shared [] ms ls n w h m = absurd (false≢true h)
one-of-shared (k ∷ ns) ms ls n w h m =
    go (eqb n k) refl (λ t. one-of-shared ns ms ls n (and_right (not (one_of ms k) || one_of ls k) (shared ns ms ls) w) t m) h
  where
    here : n ≡ k → one_of ls n ≡ true
    here e =
        let both : one_of ms k ≡ true = rw e at m in
        let there : one_of ls k ≡ true = rw both at (and_left (not (one_of ms k) || one_of ls k) (shared ns ms ls) w) in
        rw e there

    go : (b : Bool) → eqb n k ≡ b → (one_of ns n ≡ true → one_of ls n ≡ true) → (b || one_of ns n) ≡ true → one_of ls n ≡ true
    go true e later t = here (eqb-true n k e)
    go false e later t = later t

-- of two lists, one after another
pub one-of-left : (ns ms : List ℕ) (n : ℕ) → one_of ns n ≡ true → one_of (ns ++ ms) n ≡ true
one-of-left [] ms n h = absurd (false≢true h)
one-of-left (k ∷ ns) ms n h = go (eqb n k) (one-of-left ns ms n) h
  where
    go : (b : Bool) → (one_of ns n ≡ true → one_of (ns ++ ms) n ≡ true) → (b || one_of ns n) ≡ true → (b || one_of (ns ++ ms) n) ≡ true
    go true later t = refl
    go false later t = later t

pub one-of-right : (ns ms : List ℕ) (n : ℕ) → one_of ms n ≡ true → one_of (ns ++ ms) n ≡ true
one-of-right [] ms n h = h
one-of-right (k ∷ ns) ms n h = or_right (eqb n k) (one_of (ns ++ ms) n) (one-of-right ns ms n h)

-- ---- refusals

-- the number of a refusal is one of the list
abbrev pub Among : List ℕ → ProtocolError → Type 0
Among ns e = one_of ns (error_number e) ≡ true

-- that of every row is
pub record Gives (ns : List ℕ) (rs : List Row) : Type 0 where
  pub each : Each (Among ns) rs

pub gives_more : {ns : List ℕ} {rs : List Row} (ms : List ℕ) → Gives ns rs → within ns ms ≡ true → Gives ms rs
gives_more {ns} {rs} ms h w = record { each = each_more (Among ns) (Among ms) (λ e. one-of-within ns ms (error_number e) w) rs h.each }

-- rows after rows give the numbers of both
pub gives_both : {ns ms : List ℕ} {ps qs : List Row} → Gives ns ps → Gives ms qs → Gives (ns ++ ms) (ps ++ qs)
gives_both {ns} {ms} {ps} {qs} p q =
    let first = each_more (Among ns) (Among (ns ++ ms)) (λ e. one-of-left ns ms (error_number e)) ps p.each in
    let second = each_more (Among ms) (Among (ns ++ ms)) (λ e. one-of-right ns ms (error_number e)) qs q.each in
    record { each = each_append (Among (ns ++ ms)) ps qs first second }

-- what is found is 0 or a number of the list
pub found-one-of : (ns : List ℕ) (k : Check) → Refuses (Among ns) k → one_of (0 ∷ ns) (check_number k) ≡ true
found-one-of ns (Ok _) h = refl
found-one-of ns (Err e) h = or_right (eqb (error_number e) 0) (one_of ns (error_number e)) h

pub given-refuses : {ns : List ℕ} {rs : List Row} → Gives ns rs → Refuses (Among ns) (decide (Ok tt) rs)
given-refuses {ns} {rs} h = each-refuses (Among ns) rs h.each

pub given-one-of : {ns : List ℕ} {rs : List Row} → Gives ns rs → one_of (0 ∷ ns) (check_number (decide (Ok tt) rs)) ≡ true
given-one-of {ns} {rs} h = found-one-of ns (decide (Ok tt) rs) (given-refuses h)

-- and no other
pub never-given : {ns : List ℕ} {rs : List Row} (n : ℕ) → Gives ns rs → one_of (0 ∷ ns) n ≡ false → check_number (decide (Ok tt) rs) ≢ n
never-given {ns} {rs} n h k = not-one-of (0 ∷ ns) (check_number (decide (Ok tt) rs)) n (given-one-of h) k
