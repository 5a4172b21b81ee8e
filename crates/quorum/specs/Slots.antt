-- The entries of a state by slot: whether it has one for a slot, which, and the weight of a set of slots.
use Rattle.std.specs.Prelude.{ℕ, ◌+◌, Bool, true, false, cond, List, [], ◌∷◌, eqb}
use Rattle.account_state.specs.Reading.{EntryReading}

-- 01, each proof: "slot unknown": whether there is an entry for the slot, and which
unfoldable pub known_slot : ℕ → List EntryReading → Bool
known_slot slot [] = false
known_slot slot (e ∷ es) = cond (eqb e.slot slot) true (known_slot slot es)

unfoldable pub no_entry : EntryReading
no_entry =
    record { slot = 0; algorithm = 0; capabilities = 0; weight = 0; hash_type = 0; abi = 0; code_hash = []; key = []; aux = [] }

unfoldable pub entry_for : ℕ → List EntryReading → EntryReading
entry_for slot [] = no_entry
entry_for slot (e ∷ es) = cond (eqb e.slot slot) e (entry_for slot es)

-- the weights of a set of slots together, whatever their capabilities; a slot without an entry weighs nothing
abbrev pub slots_weight : List EntryReading → List ℕ → ℕ
slots_weight es [] = 0
slots_weight es (s ∷ ss) = (entry_for s es).weight + slots_weight es ss
