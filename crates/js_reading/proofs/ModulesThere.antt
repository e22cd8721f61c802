-- Whole modules that stand in a text are read behind their hashbang.
use Rattle.std.proofs.Common.{◌≡◌, ◌≤◌, ℕ, suc, Bool, true, false, List, [], ◌∷◌, length, Some, None, refl, sym, ◌∙◌, ap, arith}
use Rattle.std.specs.Str.{IsUtf8}
use Rattle.std.proofs.lemmas.Bool.{false≢true}
use Rattle.js_term.specs.Term.{Text, Term, all, depth, depths}
use Rattle.js_term.specs.Node.{string_of, statement_of}
use Rattle.js_syntax.specs.Nodes.{module_of}
use Rattle.js_syntax.specs.Edges.{is_string_statement, begins_with_string}
use Rattle.js_syntax.specs.Spelling as spell
use Rattle.js_syntax.specs.Spelling.{Directives}
use Rattle.js_syntax.specs.Modules as module'
use Rattle.js_syntax.specs.Modules.{ModuleItems, Hashbang, Spells}
use Rattle.js_tokens.specs.Next.{lexeme, after}
use Rattle.js_tokens.proofs.TokenLaws.{cut_utf8, end_opens}
use Rattle.js_reading.specs.Reading.{Reading, at_end}
use Rattle.js_reading.specs.Functions.{directive_by}
use Rattle.js_reading.specs.Statements.{inner}
use Rattle.js_reading.specs.Modules.{module_item, module_body}
use Rattle.js_reading.specs.Read.{read, read_body}
use Rattle.js_reading.proofs.TokensThere.{see, at_its_end}
use Rattle.js_reading.proofs.TokensEnd.{some_none, seen_not_end}
use Rattle.js_reading.proofs.Functions.{IsReadDirectives}
use Rattle.js_reading.proofs.Bodies.{DirectiveThere, no_directive_by, directives_text_read}
use Rattle.js_reading.proofs.ItemsRead.{ItemsRead, no_item_read, next_item_read, module_items_read}
use Rattle.js_reading.proofs.ItemStarts.{ItemFollows, end_follows_item, IsReadItem}
use Rattle.js_reading.proofs.ItemsThere.{module_item_read}

-- ---- items up to the end

pub record IsReadItems (ss : List Term) (a b : Text) : Type 0 where
  pub follows : ItemFollows a
  pub token : lexeme a ≡ None → at_end a ≡ true
  pub items : (limit : ℕ) → depths (all ss) ≤ limit → ItemsRead (read limit) ss a b

pub no_items_read : {a : Text} → at_end a ≡ true → IsReadItems [] a a
no_items_read {a} end = record { follows = end_follows_item a end; token = λ h. end; items = λ limit fits. no_item_read }

pub next_item : {s : Term} {ss : List Term} {a b c : Text} → IsReadItem s a b → IsReadItems ss b c → IsReadItems (s ∷ ss) a c
next_item r rest = record {
  follows = r.follows;
  token = λ h. absurd (r.token h);
  items = λ limit fits. next_item_read r.more r.shorter (r.reads limit (omega arith) rest.follows) (rest.items limit (omega arith));
}

-- where the first item is no string token alone, no directive stands
string_item : {a : Text} (d : DirectiveThere a) (limit : ℕ) → 2 ≤ limit → module_item (read limit) a ≡ Some (statement_of (string_of d.value), d.rest)
unfolding module_item inner
string_item d limit fits = let t = d.token in rw (t.lexeme_is, d.reads limit fits)

abbrev is_string_found : Reading Term → Bool
is_string_found None = false
is_string_found (Some p) = is_string_statement p.0

items_string : {ss : List Term} {a b : Text} → DirectiveThere a → (limit : ℕ) → 2 ≤ limit → ItemsRead (read limit) ss a b → at_end b ≡ true → begins_with_string ss ≡ true
items_string d limit fits no_item_read end = absurd (false≢true (sym (seen_not_end d.token) ∙ end))
items_string d limit fits (next_item_read more shorter is rest) end = sym (ap is_string_found is) ∙ ap is_string_found (string_item d limit fits)

pub no_directive_items : {ss : List Term} {a b : Text} → IsUtf8 a → IsReadItems ss a b → at_end b ≡ true → begins_with_string ss ≡ false → directive_by (lexeme a) (after a) ≡ None
no_directive_items {ss} u r end free = no_directive_by u (λ d. false≢true (sym free ∙ items_string d (suc (suc (depths (all ss)))) (omega arith) (r.items (suc (suc (depths (all ss)))) (omega arith)) end))

-- ---- the whole module

body_there : {ds ss : List Term} {a b c : Text} (limit : ℕ) → IsReadDirectives ds a b → directive_by (lexeme b) (after b) ≡ None → ItemsRead (read limit) ss b c → at_end c ≡ true → module_body (read limit) a ≡ Some ((ds, ss), c)
unfolding module_body
body_there {a = a} {b} limit x apart items end = rw (x.reads (suc (length a)) [] (omega arith) apart, module_items_read (read limit) (length b) [] items (omega arith) end)

module_read : {ds ss : List Term} {a b c : Text} → IsUtf8 b → IsReadDirectives ds a b → IsReadItems ss b c → at_end c ≡ true → begins_with_string ss ≡ false → depths (all ss) ≤ 511 → read_body a ≡ Some ((ds, ss), c)
unfolding read_body
module_read u x r end free fits = body_there 511 x (no_directive_items u r end free) (r.items 511 fits) end

-- a module behind its hashbang
pub record IsReadModule (t : Term) (a : Text) : Type 0 where
  pub hashbang : List Text
  pub directives : List Term
  pub statements : List Term
  pub behind : Text
  pub rest : Text
  pub whole : t ≡ module_of hashbang directives statements
  pub opened : Hashbang hashbang a behind
  -- where no token stands, it is at an end
  pub token : lexeme behind ≡ None → at_end behind ≡ true
  pub reads : depth t ≤ 512 → read_body behind ≡ Some ((directives, statements), rest)

hashbang_utf8 : {hs : List Text} {a b : Text} → Hashbang hs a b → IsUtf8 a → IsUtf8 b
hashbang_utf8 module'.no_hashbang u = u
hashbang_utf8 (module'.hashbang {x} {a} plain ends) u = cut_utf8 (35 ∷ 33 ∷ x) a u (end_opens a ends)

directives_token : {ds : List Term} {a b : Text} → Directives ds a b → IsUtf8 a → (lexeme b ≡ None → at_end b ≡ true) → lexeme a ≡ None → at_end a ≡ true
directives_token spell.no_directives u h = h
directives_token (spell.directive tok end rest) u h = λ e. let x = see tok u refl in absurd (some_none _ (sym e ∙ x.lexeme_is))

module_items_there : {ss : List Term} {a b : Text} → ModuleItems ss a b → IsUtf8 a → at_end b ≡ true → IsReadItems ss a b
module_items_there module'.no_more_items u end = no_items_read end
module_items_there (module'.next_item s rest) u end = let r = module_item_read s u in next_item r (module_items_there rest r.utf8 end)

pub spells_read : {t : Term} {a : Text} → Spells a t → IsUtf8 a → IsReadModule t a
spells_read (module'.spells {hs} {ds} {ss} {b = b} {d = d} free bang directives items end) u =
    let v = hashbang_utf8 bang u in
    let x = directives_text_read directives v in
    let r = module_items_there items x.utf8 (at_its_end d end) in
    record {
      hashbang = hs;
      directives = ds;
      statements = ss;
      behind = b;
      rest = d;
      whole = refl;
      opened = bang;
      token = directives_token directives v r.token;
      reads = λ fits. module_read x.utf8 x r (at_its_end d end) free (omega arith);
    }
