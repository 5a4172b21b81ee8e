-- The lock's script, the program's limits and its line: 01, "Where each refusal is raised" and the program, 02, change 9, computed from
-- the definitions.
use Rattle.std.specs.Prelude.{ℕ, ◌+◌, ◌≡◌, true, false, List, [], ◌∷◌, ◌++◌, map, length, replicate, Err, Ok}
use Rattle.octets.specs.Le.{to_le}
use Rattle.protocol.specs.Rows.{decide, check_number}
use Rattle.protocol.specs.declared.error.ProtocolError.TheVariants.{SceneTooLong}
use Rattle.account_lock.specs.Lock.{account_in, script_rows, refused}
use Rattle.answer_line.specs.Line.{line_of}
use Rattle.decide_scene.specs.Decided.{decided, program_decides}
use Rattle.limit_rows.specs.MoleculeLimits.{table_with}

-- a script of 53 bytes and n: n bytes in its first two fields, and args of 33 bytes that begin with 0x01
unfoldable pub script_with : ℕ → List ℕ
script_with n = table_with (53 + n) 16 16 (16 + n) (replicate n 0 ++ to_le 4 33 ++ (1 ∷ replicate 32 7))

abbrev script_number : ℕ → ℕ
script_number n = check_number (decide (Ok tt) (script_rows (script_with n)))

pub record LockLimits : Type 0 where
  -- "script above 512 bytes, its table, args", 20
  pub scripts : map script_number (0 ∷ 459 ∷ 460 ∷ []) ≡ 0 ∷ 0 ∷ 20 ∷ []
  pub account : account_in (script_with 1) ≡ replicate 32 7
  -- "A program reads a scene of up to 65,536 bytes (more is 1)"; its store, its table and its answer buffer
  pub program-65536 : (scene : List ℕ) → length scene ≡ 65536 → program_decides scene ≡ decided scene 65536 2048 148992
  pub program-65537 : (scene : List ℕ) → length scene ≡ 65537 → program_decides scene ≡ refused (Err SceneTooLong)
  -- "one line `answer,NUMBER,COUNT,LENGTH,DIGEST`"; 02, change 9: FEE; here `answer,0,1,98,0abc,7`, `answer,28,0,0,0abc,`, `answer,22,0,0,,`
  pub accepted : line_of 0 1 98 true (0x0a ∷ 0xbc ∷ []) 7 ≡ 97 ∷ 110 ∷ 115 ∷ 119 ∷ 101 ∷ 114 ∷ 44 ∷ 48 ∷ 44 ∷ 49 ∷ 44 ∷ 57 ∷ 56 ∷ 44 ∷ 48 ∷ 97 ∷ 98 ∷ 99 ∷ 44 ∷ 55 ∷ 10 ∷ []
  pub unsatisfied : line_of 28 0 0 true (0x0a ∷ 0xbc ∷ []) 0 ≡ 97 ∷ 110 ∷ 115 ∷ 119 ∷ 101 ∷ 114 ∷ 44 ∷ 50 ∷ 56 ∷ 44 ∷ 48 ∷ 44 ∷ 48 ∷ 44 ∷ 48 ∷ 97 ∷ 98 ∷ 99 ∷ 44 ∷ 10 ∷ []
  pub unreached : line_of 22 0 0 false (0x0a ∷ 0xbc ∷ []) 0 ≡ 97 ∷ 110 ∷ 115 ∷ 119 ∷ 101 ∷ 114 ∷ 44 ∷ 50 ∷ 50 ∷ 44 ∷ 48 ∷ 44 ∷ 48 ∷ 44 ∷ 44 ∷ 10 ∷ []
