-- 02, change 12: "give one digest where both reach it": the lock reaches the digest d of the scene s, which is lent to it as a table
-- and a store, or read from a text.
use Rattle.std.specs.Prelude.{◌≡◌, ◌⊎◌, true, List, ℕ}
use Rattle.octets.specs.Le.{Bytes}
use Rattle.protocol.specs.Rows.{AllPass}
use Rattle.scene_table.specs.Scene.{Scene}
use Rattle.scene_table.specs.Lent.{scene_in}
use Rattle.scene_table.specs.Valid.{scene_ok}
use Rattle.scene_reading.specs.Lines.{LinesAccepted}
use Rattle.scene_reading.specs.Reading.{scene_of}
use Rattle.account_lock.specs.declared.answer.LockAnswer.{LockAnswer}
use Rattle.account_lock.specs.Decides.{LockOutcome}
use Rattle.account_lock.specs.Lock as lock
use Rattle.decide_scene.specs.Decided.{decided}

-- by `lock`'s own answer, for any table, store and answer buffer that are lent to it
pub record LockReaches (s : Scene) (d : List ℕ) : Type 0 where
  pub table : List ℕ
  pub store : List ℕ
  pub buffer : List ℕ
  pub answer : LockAnswer
  -- a store is lent as bytes
  pub bytes : Bytes store
  pub scene : scene_in table store ≡ s
  pub outcome : LockOutcome table store buffer answer
  pub reached : answer.reached ≡ true
  pub digest : answer.digest ≡ d

-- by what is decided of a text that the reader accepts, with a store, a table and an answer buffer of these lengths
pub record TextReaches (s : Scene) (d : List ℕ) : Type 0 where
  pub text : List ℕ
  pub store : ℕ
  pub table : ℕ
  pub buffer : ℕ
  pub lines : LinesAccepted text store
  pub scene : scene_of lines.lines ≡ s
  pub reached : (decided text store table buffer).reached ≡ true
  pub digest : (decided text store table buffer).digest ≡ d

abbrev pub Reaches : Scene → List ℕ → Type 0
Reaches s d = LockReaches s d ⊎ TextReaches s d

-- 01: "The lock returns .. the digest, none if unreached.": the scenes that reach one are those which a text can say, with at most 64
-- lines of a kind, and which pass every row before the proofs'; and it is document 01's digest
pub record HasDigest (s : Scene) (d : List ℕ) : Type 0 where
  pub scene : scene_ok s ≡ true
  pub early : AllPass (lock.early_rows s)
  pub digest : d ≡ lock.digest s
