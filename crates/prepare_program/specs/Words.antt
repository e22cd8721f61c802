-- The words that the program is called with.
use Rattle.std.specs.Prelude.{◌≡◌, List, [], ◌∷◌, map, codes, String, string_bytes}
use Rattle.std.specs.declared.alloc.Global.{Global}

-- the words are `prepare` alone
abbrev pub IsPrepare : List (String Global) → Type 0
IsPrepare words = map string_bytes words ≡ codes "prepare" ∷ []
