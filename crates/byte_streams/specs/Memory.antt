-- What a clause reads of a source and a sink in memory.
use Rattle.std.specs.Prelude.{ℕ, List, drop}
use Rattle.byte_streams.specs.declared.memory.MemorySource.{MemorySource}
use Rattle.byte_streams.specs.declared.memory.MemorySink.{MemorySink}

-- the bytes that have not been read
abbrev pub source_bytes : MemorySource → List ℕ
source_bytes s = drop s.at s.bytes.items

-- the bytes that have been written
abbrev pub sink_bytes : MemorySink → List ℕ
sink_bytes k = k.bytes.items
