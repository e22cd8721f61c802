-- Tokens of texts that are written out: each has one premise, a test that is `refl` there.
use Rattle.std.proofs.Common.{◌≡◌, Bool, true, false, not, ◌&&◌, ◌||◌, [], ◌∷◌, ◌++◌, Some, refl, subst}
use Prim.Native.String.{String}
use Rattle.std.specs.Prelude.{codes}
use Rattle.std.specs.List.{list_all, list_any}
use Rattle.std.proofs.lemmas.Bool.{and_parts, or_parts, not-true}
use Rattle.js_term.specs.Term.{Text, Term}
use Rattle.js_term.specs.Lexeme.{is_line_end, is_blank, goes_on, is_word, not_next, is_reserved, is_one_of}
use Rattle.js_term.specs.Node.{identifier_of, binding_of, number_of, statement_of}
use Rattle.js_syntax.specs.Lexical.{begins_gap, first_passes, is_integer, is_point, is_numeral, decoded}
use Rattle.js_syntax.specs.Tokens.{Front, SameLine, AtEnd, word, number, string, sign, signs, opens_with, is_longest, Lexed, is_punctuator, Token, Word, Sign}
use Rattle.js_syntax.specs.Tokens
use Rattle.js_syntax.specs.Edges.{Edge, is_sign_among, goes_on_with, begins_with_string, is_string_statement, begins_with_brace, begins_with_definition, edge}
use Rattle.js_syntax.specs.Nodes.{module_of}
use Rattle.js_syntax.specs.Modules.{Spells, spells, ModuleItem, statement, next_item, no_more_items, no_hashbang}
use Rattle.js_syntax.specs.Spelling.{Semicolon, behind_line, Stands, identifier, numeric, Pattern, binding, Expression, expression_statement, no_directives}
use Rattle.js_syntax.proofs.Ascii.{ascii_name, ascii_end, front_of, same_line_of, at_end_of, word_token, number_token, string_token, sign_token}

-- ---- gaps

abbrev no_line : Text → Text → Bool
no_line gap rest = list_all is_blank gap && (not (list_any is_line_end gap) && not (begins_gap rest))

pub same_line_at : (gap rest : String) → no_line (codes gap) (codes rest) ≡ true → SameLine (codes gap ++ codes rest)
same_line_at gap rest e =
    let blank = and_parts _ _ e in
    let parts = and_parts _ _ blank.1 in
    same_line_of (codes gap) (codes rest) blank.0 (not-true _ parts.0) (not-true _ parts.1)

pub end_at : (gap : String) → list_all is_blank (codes gap) ≡ true → AtEnd (codes gap ++ [])
end_at gap e = at_end_of (codes gap) e

-- ---- words

abbrev a_word : Text → Text → Text → Bool
a_word gap x rest = list_all is_blank gap && (is_word x && not_next goes_on rest)

pub word_at : (gap x rest : String) → a_word (codes gap) (codes x) (codes rest) ≡ true → Word (codes x) (codes gap ++ (codes x ++ codes rest)) (codes rest)
word_at gap x rest e =
    let blank = and_parts _ _ e in
    let parts = and_parts _ _ blank.1 in
    word_token (codes gap) (codes x) (codes rest) blank.0 parts.0 parts.1

abbrev a_free_word : Text → Text → Text → Bool
a_free_word gap x rest = not (is_reserved x) && a_word gap x rest

pub name_at : {i : Bool} (gap x rest : String) → a_free_word (codes gap) (codes x) (codes rest) ≡ true → Stands i 21 (identifier_of (codes x)) (codes gap ++ (codes x ++ codes rest)) (codes rest)
name_at gap x rest e = let parts = and_parts _ _ e in identifier (not-true _ parts.0) (word_at gap x rest parts.1)

pub binding_at : (gap x rest : String) → a_free_word (codes gap) (codes x) (codes rest) ≡ true → Pattern (binding_of (codes x)) (codes gap ++ (codes x ++ codes rest)) (codes rest)
binding_at gap x rest e = let parts = and_parts _ _ e in binding (not-true _ parts.0) (word_at gap x rest parts.1)

-- ---- signs

abbrev a_sign : Text → Text → Text → Bool
a_sign gap s rest = list_all is_blank gap && (not (begins_gap (s ++ rest)) && (is_one_of s signs && (opens_with s (s ++ rest) && is_longest s (s ++ rest))))

pub sign_at : (gap s rest : String) → a_sign (codes gap) (codes s) (codes rest) ≡ true → Sign (codes s) (codes gap ++ (codes s ++ codes rest)) (codes rest)
sign_at gap s rest e =
    let blank = and_parts _ _ e in
    let front = and_parts _ _ blank.1 in
    let is = and_parts _ _ front.1 in
    let parts = and_parts _ _ is.1 in
    sign_token (codes gap) (codes s) (codes rest) blank.0 (not-true _ front.0) is.0 parts.0 parts.1

-- ---- numbers and strings

abbrev a_number : Text → Text → Text → Bool
a_number gap x rest = list_all is_blank gap && (not (begins_gap (x ++ rest)) && (is_numeral x && (not_next goes_on rest && not (is_integer x && first_passes is_point rest))))

pub number_at : {i : Bool} (gap x rest : String) → a_number (codes gap) (codes x) (codes rest) ≡ true → Stands i 21 (number_of (codes x)) (codes gap ++ (codes x ++ codes rest)) (codes rest)
number_at gap x rest e =
    let blank = and_parts _ _ e in
    let front = and_parts _ _ blank.1 in
    let is = and_parts _ _ front.1 in
    let parts = and_parts _ _ is.1 in
    numeric (number_token (codes gap) (codes x) (codes rest) blank.0 (not-true _ front.0) is.0 parts.0 (not-true _ parts.1))

-- a string in single quotes that is its own value
pub string_at : (gap s rest : String) → list_all is_blank (codes gap) ≡ true → decoded 39 (codes s) ≡ Some (codes s) → Token (codes gap ++ 39 ∷ (codes s ++ 39 ∷ codes rest)) (string (39 ∷ (codes s ++ 39 ∷ [])) (codes s)) (codes rest)
string_at gap s rest e same = string_token (codes gap) 39 (codes s) (codes s) (codes rest) e refl same

-- ---- the semicolon left out behind a line end

abbrev word_below : Text → Text → Text → Bool
word_below gap x rest = list_any is_line_end gap && (not (begins_gap (x ++ rest)) && a_word gap x rest)

front_below : (gap middle : Text) → list_all is_blank gap ≡ true → list_any is_line_end gap ≡ true → begins_gap middle ≡ false → Front true (gap ++ middle) middle
front_below gap middle e line ends = subst (λ b. Front b (gap ++ middle) middle) line (front_of gap middle e ends)

pub before_word : {edge : Edge} (gap x rest : String) → word_below (codes gap) (codes x) (codes rest) ≡ true → goes_on_with edge (word (codes x)) ≡ false → Semicolon edge (codes gap ++ (codes x ++ codes rest)) (codes gap ++ (codes x ++ codes rest))
before_word gap x rest e stops =
    let line = and_parts _ _ e in
    let front = and_parts _ _ line.1 in
    let blank = and_parts _ _ front.1 in
    let parts = and_parts _ _ blank.1 in
    behind_line (front_below (codes gap) (codes x ++ codes rest) blank.0 line.0 (not-true _ front.0)) (Tokens.is_word (ascii_name (codes x) parts.0) (ascii_end (codes rest) parts.1)) refl stops

abbrev sign_below : Text → Text → Text → Bool
sign_below gap s rest = list_any is_line_end gap && a_sign gap s rest

pub before_sign : {edge : Edge} (gap s rest : String) → sign_below (codes gap) (codes s) (codes rest) ≡ true → is_sign_among (codes ";" ∷ []) (sign (codes s)) || goes_on_with edge (sign (codes s)) ≡ false → Semicolon edge (codes gap ++ (codes s ++ codes rest)) (codes gap ++ (codes s ++ codes rest))
before_sign gap s rest e stops =
    let line = and_parts _ _ e in
    let blank = and_parts _ _ line.1 in
    let front = and_parts _ _ blank.1 in
    let is = and_parts _ _ front.1 in
    let parts = and_parts _ _ is.1 in
    let stop = or_parts _ _ stops in
    behind_line (front_below (codes gap) (codes s ++ codes rest) blank.0 line.0 (not-true _ front.0)) (is_punctuator {s = codes s} {rest = codes rest} is.0 parts.0 parts.1) stop.0 stop.1

-- ---- modules of one item

pub item_alone : {s : Term} {a b : Text} → begins_with_string (s ∷ []) ≡ false → ModuleItem s a b → AtEnd b → Spells a (module_of [] [] (s ∷ []))
item_alone e item end = spells e no_hashbang no_directives (next_item item no_more_items) end

pub expression_alone : {e : Term} {a b c : Text} → is_string_statement (statement_of e) ≡ false → begins_with_brace e || begins_with_definition e ≡ false → Expression true e a b → Semicolon (edge e) b c → AtEnd c → Spells a (module_of [] [] (statement_of e ∷ []))
expression_alone no_string free is semicolon end = item_alone no_string (statement (expression_statement free is semicolon)) end
