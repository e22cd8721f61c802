-- Arrays, objects and classes (13.2.4, 13.2.5, 15.7). What reads a part is handed in.
use Rattle.std.specs.Prelude.{ℕ, zero, suc, List, [], ◌∷◌, ◌++◌, length, Option, None, Some, Bool, true, false, ◌&&◌, ◌||◌, if◌then◌else◌, codes}
use Rattle.js_term.specs.Term.{Text, is_text, Term, absent, all}
use Rattle.js_term.specs.declared.kind.Kind.{Kind}
use Rattle.js_term.specs.Lexeme.{is_reserved, is_one_of}
use Rattle.js_term.specs.Node.{name_of, identifier_of, array_of, object_of}
use Rattle.js_syntax.specs.Nodes.{of_list, of_parts, property, pair_of, class_node, method_node, field_node}
use Rattle.js_syntax.specs.Parts.{is_node}
use Rattle.js_syntax.specs.Tokens.{Lexeme, word, sign}
use Rattle.js_syntax.specs.Edges.{is_constructor, field_edge}
use Rattle.js_tokens.specs.Next.{lexeme, after}
use Rattle.js_reading.specs.declared.goal.Goal.{Goal}
use Rattle.js_reading.specs.declared.goal.Goal.TheVariants as goal
use Rattle.js_reading.specs.Reading.{Found, closed, Reading, ◌>>=◌, sees, sees_word, same_line, expect, begins_key_at, semicolon, group, trees, any_cover, any_barred}
use Rattle.js_reading.specs.Parts.{Key, part, spread, element, key, member_key}
use Rattle.js_reading.specs.Functions.{star, naming, initializer, method_function, enclosed}

-- ---- what was found in a literal

abbrev pub ends_with_spread : List Found → Bool
ends_with_spread [] = false
ends_with_spread (f ∷ []) = is_node Kind.SpreadElement f.tree
ends_with_spread (f ∷ fs) = ends_with_spread fs

-- a comma behind a spread bars the whole from standing for a pattern
abbrev pub is_barred : List Found → Bool → Bool
is_barred fs comma = any_barred fs || (comma && ends_with_spread fs)

abbrev pub literal : Term → List Found → Bool → Found
literal t fs comma = record { tree = t; level = 21; cover = any_cover fs; barred = is_barred fs comma }

-- ---- what goes on with a word as its modifier

-- behind `async` a key or `*`, on the same line
unfoldable pub modifies_method : Text → Bool
modifies_method b = same_line b && (begins_key_at b || sees (codes "*") b)

-- behind `static` a key, `*` or the brace of a block
unfoldable pub modifies_element : Text → Bool
modifies_element b = begins_key_at b || sees (codes "*") b || sees (codes "{") b

abbrev pub is_accessor : Text → Bool
is_accessor x = is_one_of x (codes "get" ∷ codes "set" ∷ [])

-- only a getter may have a comma behind its parameters, where it has none
abbrev pub takes_comma : Text → Bool
takes_comma kind = is_text kind (codes "get")

-- ---- properties

abbrev pub method_property : Text → Bool → Key → Term → Found
method_property kind method k f = closed (property kind method false k.0 k.1 f) 0

abbrev pub pair_found : Key → Found → Found
pair_found k f = record { tree = property (codes "init") false false k.0 k.1 f.tree; level = 0; cover = f.cover; barred = f.barred }

-- a shorthand with an initializer stands in a target alone
abbrev pub default_found : Text → Term → Found
default_found x e = record { tree = pair_of Kind.AssignmentTargetProperty false true (name_of x) (of_parts Kind.AssignmentTargetWithDefault (identifier_of x) e); level = 0; cover = true; barred = false }

abbrev pub shorthand_found : Text → Found
shorthand_found x = closed (property (codes "init") false true false (name_of x) (identifier_of x)) 0

-- the kind of a method, which is the constructor or another one
abbrev pub method_kind : Bool → Text
method_kind true = codes "constructor"
method_kind false = codes "method"

module _ (sub : Goal → Text → Reading Found) where
  -- behind `[`
  unfoldable pub array : Text → Reading Found
  array a = group (element sub) (codes "]") a >>= λ found b. expect (codes "]") b >>= λ _ c. Some (literal (array_of (all (trees found.0))) found.0 found.1, c)

  -- a method with these marks, from its key on
  unfoldable pub marked_method : Text → Text → Text → Reading Found
  marked_method async s a = key sub a >>= λ k b. method_function sub true async s b >>= λ f c. Some (method_property (codes "init") true k f, c)

  unfoldable pub accessor_property : Text → Text → Reading Found
  accessor_property kind a = key sub a >>= λ k b. method_function sub (takes_comma kind) [] [] b >>= λ f c. Some (method_property kind false k f, c)

  -- behind `:`
  unfoldable pub valued : Key → Text → Reading Found
  valued k a = sub (goal.Expression 2 true) a >>= λ f b. Some (pair_found k f, b)

  -- behind a key
  unfoldable pub behind_key : Key → Text → Reading Found
  behind_key k a =
      if sees (codes ":") a then valued k (after a)
      else method_function sub true [] [] a >>= λ f b. Some (method_property (codes "init") true k f, b)

  -- behind a name without a value (13.2.5.1)
  unfoldable pub shorthand : Text → Text → Reading Found
  shorthand x a =
      if is_reserved x then None
      else if sees (codes "=") a then (part sub (goal.Expression 2 true) (after a) >>= λ e b. Some (default_found x e, b))
      else Some (shorthand_found x, a)

  -- behind a name
  unfoldable pub named_property : Text → Text → Reading Found
  named_property x b =
      if is_text x (codes "async") && modifies_method b then (star b >>= λ s c. marked_method (codes "async") s c)
      else if is_accessor x && begins_key_at b then accessor_property x b
      else if sees (codes ":") b || sees (codes "(") b then behind_key (false, name_of x) b
      else shorthand x b

  abbrev pub property_by : Option Lexeme → Text → Reading Found
  property_by (Some (word x)) a = named_property x (after a)
  property_by (Some (sign s)) a =
      if is_text s (codes "...") then spread sub (after a)
      else if is_text s (codes "*") then marked_method [] (codes "*") (after a)
      else key sub a >>= behind_key
  property_by o a = key sub a >>= behind_key

  unfoldable pub property_item : Text → Reading Found
  property_item a = property_by (lexeme a) a

  -- behind `{`
  unfoldable pub object : Text → Reading Found
  object a = group property_item (codes "}") a >>= λ found b. expect (codes "}") b >>= λ _ c. Some (literal (object_of (all (trees found.0))) found.0 found.1, c)

  -- ---- classes

  unfoldable pub heritage : Text → Reading Term
  heritage a = if sees_word (codes "extends") a then part sub (goal.Expression 18 true) (after a) else Some (absent, a)

  -- a method or an accessor is no constructor where it has a mark
  unfoldable pub element_function : Text → Text → Bool → Text → Text → Text → Reading Term
  element_function kind static t async s a =
      member_key sub a >>= λ k b. method_function sub t async s b >>= λ f c.
      if is_constructor static k.0 k.1 then None else Some (method_node kind k.0 static k.1 f, c)

  unfoldable pub field : Text → Key → Text → Reading Term
  field static k a =
      initializer sub true a >>= λ v b. semicolon (field_edge static k.0 k.1 v) b >>= λ _ c. Some (field_node k.0 static k.1 v, c)

  unfoldable pub plain_element : Text → Text → Reading Term
  plain_element static a =
      member_key sub a >>= λ k b.
      if sees (codes "(") b then (method_function sub true [] [] b >>= λ f c. Some (method_node (method_kind (is_constructor static k.0 k.1)) k.0 static k.1 f, c))
      else field static k b

  -- behind a word that may be a mark
  unfoldable pub word_element : Text → Text → Text → Reading Term
  word_element static x a =
      if is_text x (codes "async") && modifies_method (after a) then (star (after a) >>= λ s c. element_function (codes "method") static true (codes "async") s c)
      else if is_accessor x && begins_key_at (after a) then element_function x static (takes_comma x) [] [] (after a)
      else plain_element static a

  abbrev pub element_by : Text → Option Lexeme → Text → Reading Term
  element_by static (Some (word x)) a = word_element static x a
  element_by static (Some (sign s)) a = if is_text s (codes "*") then element_function (codes "method") static true [] (codes "*") (after a) else plain_element static a
  element_by static o a = plain_element static a

  unfoldable pub marked_element : Text → Text → Reading Term
  marked_element static a = element_by static (lexeme a) a

  -- behind `static {`
  unfoldable pub static_block : Text → Reading Term
  static_block a = enclosed sub a >>= λ ss b. Some (of_list Kind.StaticBlock (all ss), b)

  -- behind `static`
  unfoldable pub static_element : Text → Reading Term
  static_element b = if sees (codes "{") b then static_block (after b) else marked_element (codes "static") b

  unfoldable pub class_element : Text → Reading Term
  class_element a = if sees_word (codes "static") a && modifies_element (after a) then static_element (after a) else marked_element [] a

  unfoldable pub elements : ℕ → List Term → Text → Reading (List Term)
  elements zero found a = None
  elements (suc n) found a =
      if sees (codes "}") a then Some (found, a)
      else if sees (codes ";") a then elements n found (after a)
      else class_element a >>= λ e b. elements n (found ++ e ∷ []) b

  -- behind `class`
  unfoldable pub class : Kind → Text → Reading Term
  class k a =
      naming a >>= λ id b. heritage b >>= λ h c. expect (codes "{") c >>= λ _ d. elements (length d) [] d >>= λ es e.
      expect (codes "}") e >>= λ _ f. Some (class_node k id h es, f)
