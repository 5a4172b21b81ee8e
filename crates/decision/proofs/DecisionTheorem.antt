-- Demand 3 for the proofs of a witness lock: the walk passes exactly where every row before the one for 28 passes and there is a
-- quorum, and then it has made one request per proof; its number is 0 or 28 exactly where those rows pass.
-- Assumes nothing.
use Rattle.std.specs.Prelude.{Ok}
use mathlib.Core.Path.{◌≡◌}
use mathlib.Core.Logic.{◌↔◌}
use mathlib.Core.Bool.{true}
use mathlib.Core.List.{List, []}
use Prim.Native.Nat.{ℕ}
use lib.ListN.{length, take}
use Rattle.protocol.specs.Rows.{AllPass, check_number}
use Rattle.account_witness.specs.Fields.{proof_count_of}
use Rattle.account_witness.specs.Walk.{witness_proof_rows}
use Rattle.decision.specs.Proofs.{Context, requests_of}
use Rattle.decision.specs.Walk.{proof_list_of, walk_from, walk_list, walk_lock}
use Rattle.account_witness.specs.Reading.{witness_proofs}
use Rattle.decision.specs.Decision.{EachPasses, ProofsPass, Quorum}
use Rattle.decision.proofs.Quorum.{ZeroOr28, walk-zero-or-28, walk-decides, walk-answers, walk-answers-always}
use Rattle.decision.proofs.Listed.{listed-clean, listed-proofs, listed-rising}

-- where no layout is faulty these are the lock's
pub listed-witness-proofs : (lock : List ℕ) → AllPass (witness_proof_rows lock) → (proof_list_of lock).proofs ≡ witness_proofs lock
listed-witness-proofs lock h = listed-proofs lock (proof_count_of lock) 16 0 h

pub witness-decides : (c : Context) (lock : List ℕ)
    → ((walk_lock c lock).found ≡ Ok tt) ↔ (ProofsPass c lock × Quorum c (witness_proofs lock))
unfolding walk_lock walk_list
witness-decides c lock = (there, back)
  where
    decides : ((walk_from c (proof_list_of lock).clean 0 0 [] (proof_list_of lock).proofs).found ≡ Ok tt)
        ↔ (((proof_list_of lock).clean ≡ true) × EachPasses c 0 0 (proof_list_of lock).proofs × Quorum c (proof_list_of lock).proofs)
    decides = walk-decides c (proof_list_of lock).clean (proof_list_of lock).proofs (listed-rising lock (proof_count_of lock) 16 0)

    back : ProofsPass c lock × Quorum c (witness_proofs lock) → (walk_lock c lock).found ≡ Ok tt
    back h =
        let l = h.0.layout in
        let e = listed-witness-proofs lock l in
        decides.1 ((listed-clean lock (proof_count_of lock) 16 0).1 l, rw e h.0.each, rw e h.1)

    there : (walk_lock c lock).found ≡ Ok tt → ProofsPass c lock × Quorum c (witness_proofs lock)
    there h =
        let z = decides.0 h in
        let l = (listed-clean lock (proof_count_of lock) 16 0).0 z.0 in
        let e = listed-witness-proofs lock l in
        (record { layout = l; each = rw e at z.1 }, rw e at z.2)

-- its number is 0 or 28 exactly where every row before the one for 28 passes
pub witness-zero-or-28 : (c : Context) (lock : List ℕ) → ZeroOr28 (check_number (walk_lock c lock).found) ↔ ProofsPass c lock
unfolding walk_lock walk_list
witness-zero-or-28 c lock = (there, back)
  where
    number : ZeroOr28 (check_number (walk_from c (proof_list_of lock).clean 0 0 [] (proof_list_of lock).proofs).found)
        ↔ (((proof_list_of lock).clean ≡ true) × EachPasses c 0 0 (proof_list_of lock).proofs)
    number = walk-zero-or-28 c (proof_list_of lock).clean (proof_list_of lock).proofs

    there : ZeroOr28 (check_number (walk_lock c lock).found) → ProofsPass c lock
    there h =
        let z = number.0 h in
        let l = (listed-clean lock (proof_count_of lock) 16 0).0 z.0 in
        record { layout = l; each = rw (listed-witness-proofs lock l) at z.1 }

    back : ProofsPass c lock → ZeroOr28 (check_number (walk_lock c lock).found)
    back h = number.1 ((listed-clean lock (proof_count_of lock) 16 0).1 h.layout, rw (listed-witness-proofs lock h.layout) h.each)

-- where every row before the one for 28 passes: one request for each proof, in order
pub witness-answers : (c : Context) (lock : List ℕ) → ProofsPass c lock
    → ((walk_lock c lock).count ≡ length (witness_proofs lock)) × ((walk_lock c lock).made ≡ requests_of c (witness_proofs lock))
unfolding walk_lock walk_list
witness-answers c lock h =
    let e = listed-witness-proofs lock h.layout in
    rw (← e) (walk-answers c (proof_list_of lock).clean (proof_list_of lock).proofs (rw e h.each))

-- and always: the requests of as many proofs as were counted, a failed verdict's too
pub witness-answers-always : (c : Context) (lock : List ℕ)
    → (walk_lock c lock).made ≡ requests_of c (take (walk_lock c lock).count (proof_list_of lock).proofs)
unfolding walk_lock walk_list
witness-answers-always c lock = walk-answers-always c (proof_list_of lock).clean (proof_list_of lock).proofs
