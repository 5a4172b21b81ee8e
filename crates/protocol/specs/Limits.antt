-- The limits of a scene and of what is lent with it.
use Rattle.std.specs.Prelude.{ℕ}

-- 01: "reader: above 1,048,576 bytes", 1
abbrev pub scene_max_length : ℕ
scene_max_length = 1048576

-- 01: "reader: table below 2,048 entries", 6
abbrev pub table_min_entries : ℕ
table_min_entries = 2048

-- 01: "Script, tx and verdicts stand once; each other kind 0 to 64 times."
abbrev pub kind_max_lines : ℕ
kind_max_lines = 64

-- 01: "DIGITS is up to 16 of 0 approved, 1 refused, 2 failed"
abbrev pub digits_max_count : ℕ
digits_max_count = 16

-- 01: "an answer buffer of 148,992 bytes (enough for any)"
abbrev pub answer_buffer_length : ℕ
answer_buffer_length = 148992
