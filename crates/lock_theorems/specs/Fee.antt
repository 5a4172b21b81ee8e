-- 02, change 9: "Refused: 39 where a total passes 2^64−1, inputs first, then 48 where outputs exceed inputs, both after 28."
use Rattle.std.specs.Prelude.{ℕ, List}
use Rattle.account_lock.specs.Decides.{EarlierPass, LockQuorum}

-- 28 is past: every earlier row passes, and a quorum stands
abbrev pub QuorumStands : List ℕ → List ℕ → ℕ → Type 0
QuorumStands table store room = EarlierPass table store room × LockQuorum table store room
