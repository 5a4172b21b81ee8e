-- `exports_scene::fowlcredenza_read_scene` meets its contract, as its two calls do. Assumes nothing.
use Rattle.exports_scene.proofs.fowlcredenza_read_scene.Goals as goal

pub returns : goal.returns
returns c =
    let e = c.read_scene.ensures in
    record { value = rw e.value at c.check_number.ensures; store_after = e.store_after; table_after = e.table_after }
