-- What a clause reads of a source that never fails.
use Rattle.std.specs.Prelude.{ℕ, List, drop}
use Rattle.byte_streams.specs.declared.sure.SureSource.{SureSource}

-- the bytes that have not been read
abbrev pub sure_bytes : SureSource → List ℕ
sure_bytes s = drop s.at s.bytes.items
