-- What reading comes to.
use Rattle.std.specs.Prelude.{◌≡◌, ◌≤◌, List, Some}
use Rattle.std.specs.Str.{IsUtf8}
use Rattle.js_term.specs.Term.{Text, Term, depth}
use Rattle.js_syntax.specs.Nodes.{module_of}
use Rattle.js_syntax.specs.Modules.{Hashbang, Spells}
use Rattle.js_reading.specs.Read.{read_body}

-- What is read behind the hashbang, or at the front where there is none, is spelled.
pub record Sound : Type 0 where
  pub spelled : (hashbang : List Text) (ds ss : List Term) (a b c : Text) → IsUtf8 b → Hashbang hashbang a b → read_body b ≡ Some ((ds, ss), c) → Spells a (module_of hashbang ds ss)

-- These directives and these items are read behind this hashbang.
pub record ReadBehind (hashbang : List Text) (ds ss : List Term) (a : Text) : Type 0 where
  pub behind : Text
  pub rest : Text
  pub opened : Hashbang hashbang a behind
  pub reads : read_body behind ≡ Some ((ds, ss), rest)

-- What is spelled is read, where its tree has a depth of 512 at most.
pub record Complete : Type 0 where
  pub read : (hashbang : List Text) (ds ss : List Term) (a : Text) → IsUtf8 a → Spells a (module_of hashbang ds ss) → depth (module_of hashbang ds ss) ≤ 512 → ReadBehind hashbang ds ss a

-- No text spells two such modules.
pub record Unique : Type 0 where
  pub same : (t t' : Term) (a : Text) → IsUtf8 a → Spells a t → Spells a t' → depth t ≤ 512 → depth t' ≤ 512 → t ≡ t'
