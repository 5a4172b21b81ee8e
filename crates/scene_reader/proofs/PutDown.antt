-- A line that every row passes and that is put down: it fits, and the state after it is ready. Assumes nothing.
use Rattle.std.specs.Prelude.{Option, Ok}
use Prim.Native.Nat.{ℕ, ◌+◌, ◌≤◌, ◌<◌}
use mathlib.Core.Bool.{true}
use mathlib.Core.Path.{◌≡◌, ap}
use mathlib.Core.List.{List}
use native.Mathlib.Omega.{arith}
use native.Mathlib.Numerals.{add-one}
use lib.ListN.{length, set}
use lib.Seq.{sets}
use Rattle.scene_line.specs.declared.form.Form.{Form}
use Rattle.scene_line.specs.declared.kind.Kind.{Kind}
use Rattle.scene_line.specs.Line.{line_bytes, line_entries}
use Rattle.scene_line.specs.Kind.{rank, field_count, first_form, follows}
use Rattle.scene_line.proofs.KindLaws.{rank-small}
use Rattle.scene_reader.specs.declared.state.State.{State}
use Rattle.scene_reader.specs.Reader.{ReaderState, seen_with, line_put_as}
use Rattle.scene_reader.specs.Room.{state_holding, entries_limit, ReaderReady, ReadyAfter}
use Rattle.scene_reader.proofs.Bounds.{fits, entries-limit-small}
use Rattle.scene_reader.proofs.LinePasses.{Passes}

module _ (s : State) (st tb : List ℕ) (k : Option Kind) (fs : List (List ℕ)) where
  -- the state and the lists after the line, part by part, are the line put down
  pub is-put : (p : Option Kind) (n end m : ℕ) (t : Form) (st' tb' : List ℕ) → rank p ≡ rank k → n ≡ seen_with (rank s.last) s.seen (rank k) → t ≡ first_form k
      → m ≡ length (line_bytes (first_form k) fs) → end ≡ s.filled + 1 + length (line_entries t fs)
      → st' ≡ sets st s.used (line_bytes t fs)
      → tb' ≡ sets (set (set tb (rank k) n) s.filled s.used) (s.filled + 1) (line_entries t fs)
      → state_holding (record { last = p; seen = n; used = s.used + m; filled = end }) st' tb' ≡ line_put_as (state_holding s st tb) k fs
  unfolding line_put_as
  is-put p n end m t st' tb' hp hn ht hm he hs hb = rw (he, hs, hb, hm, hn, hp, ht, add-one s.filled)

  module _ (n : ℕ) (ready : ReaderReady s n (length st) (length tb))
      (shape : (length fs ≡ field_count k) × (follows (rank s.last) (rank k) ≡ true))
      (z : Passes (state_holding s st tb) k fs) where
    -- the entries in use with the line stay within the limit
    within : s.filled + 1 + length (line_entries (first_form k) fs) ≤ entries_limit (rank k) (seen_with (rank s.last) s.seen (rank k))
    within =
        fits (rank s.last) s.seen s.filled k fs ready.few ready.fits shape.0 shape.1 z.forms

    -- the table has room for the line
    pub room : (rank k < length tb) × (s.filled + 1 + length (line_entries (first_form k) fs) ≤ length tb)
    room =
        let least = ready.enough in
        let small = entries-limit-small (rank k) (seen_with (rank s.last) s.seen (rank k)) (rank-small k) z.few in
        (omega (arith, least, rank-small k), omega (arith, least, small, within))

    -- the state after the line is ready
    pub kept : (r : State) (st' tb' : List ℕ) → length (line_bytes (first_form k) fs) ≤ n → state_holding r st' tb' ≡ line_put_as (state_holding s st tb) k fs
        → ReadyAfter s n (length st) (length tb) (Ok r)
    unfolding line_put_as
    kept r st' tb' few e =
        let last' : rank r.last ≡ rank k = ap (λ (g : ReaderState). g.last) e in
        let seen' : r.seen ≡ seen_with (rank s.last) s.seen (rank k) = ap (λ (g : ReaderState). g.seen) e in
        let used' : r.used ≡ s.used + length (line_bytes (first_form k) fs) = ap (λ (g : ReaderState). g.used) e in
        let filled' : r.filled ≡ s.filled + 1 + length (line_entries (first_form k) fs) = ap (λ (g : ReaderState). g.filled) e in
        let small = ready.small in (
          record {
            few = rw seen' z.few;
            inside = rw used' z.room;
            small = omega (arith, used', few, small);
            enough = ready.enough;
            fits = rw (last', seen', filled') within;
          },
          omega (arith, used', few),
        )
