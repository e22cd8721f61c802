-- Keys, and properties of an object that are no methods, that stand in a text are read.
use Rattle.std.proofs.Common.{◌≡◌, ◌≤◌, ℕ, Bool, true, false, not, ◌||◌, if◌then◌else◌, [], ◌∷◌, Option, Some, None, refl, ◌∙◌, ap, arith, codes}
use Rattle.std.specs.Str.{IsUtf8}
use Rattle.std.proofs.lemmas.Bool.{false≢true, not-true, and_right, or_left, or_from}
use Rattle.js_term.specs.Term.{Text, is_text, Term, depth}
use Rattle.js_term.specs.declared.kind.Kind.{Kind}
use Rattle.js_term.specs.Lexeme.{is_reserved, is_one_of}
use Rattle.js_term.specs.Node.{name_of, string_of, number_of, identifier_of}
use Rattle.js_syntax.specs.Nodes.{of_text, of_part, property}
use Rattle.js_syntax.specs.Tokens.{Lexeme, word, private_name, number, big_integer, string, regexp, no_substitution, template_head, template_middle, template_tail, sign}
use Rattle.js_syntax.proofs.Fronts.{among}
use Rattle.js_tokens.specs.Next.{lexeme}
use Rattle.js_reading.specs.declared.goal.Goal.{Goal}
use Rattle.js_reading.specs.declared.goal.Goal.TheVariants as goal
use Rattle.js_reading.specs.Reading.{Found, Reading, ◌>>=◌, sees, same_line, begins_key_by, begins_key_at}
use Rattle.js_reading.specs.Parts.{Key, key, spread_of, spread}
use Rattle.js_reading.specs.Literals.{modifies_method, is_accessor, pair_found, shorthand_found, valued, behind_key, shorthand, named_property, property_by, property_item}
use Rattle.js_reading.specs.Read.{read}
use Rattle.js_reading.proofs.TokensThere.{Seen, sees_by}
use Rattle.js_reading.proofs.Each.{no_sign_by}
use Rattle.js_reading.proofs.Lists.{is_closing, separates, ReadsItem, some_item, separate_item}
use Rattle.js_reading.proofs.Climbs.{whole}
use Rattle.js_reading.proofs.Listings.{StandsRead, FoundItem, found_expression}
use Rattle.js_reading.proofs.Grouped.{property_of}
use Rattle.js_reading.proofs.Templating.{IsReadKey, name_key_read, string_key_read, number_key_read, bigint_key_read, computed_key_read}

-- ---- what modifies nothing

no_modifier : (b : Text) → begins_key_at b ≡ false → sees (codes "*") b ≡ false → modifies_method b ≡ false
unfolding modifies_method
no_modifier b h h' = and_right (same_line b) _ (or_from (begins_key_at b) _ h h')

-- behind a name no key and no star: it is the name of a property
pub plain_name : (sub : Goal → Text → Reading Found) (x b : Text) → begins_key_at b ≡ false → sees (codes "*") b ≡ false → named_property sub x b ≡ (if sees (codes ":") b || sees (codes "(") b then behind_key sub (false, name_of x) b else shorthand sub x b)
unfolding named_property
plain_name sub x b h h' = rw (and_right (is_text x (codes "async")) (modifies_method b) (no_modifier b h h'), and_right (is_accessor x) (begins_key_at b) h)

pub named_there : (sub : Goal → Text → Reading Found) {x a b : Text} → Seen (word x) a b → property_item sub a ≡ named_property sub x b
unfolding property_item
named_there sub tok = rw (tok.lexeme_is, tok.after_is)

pub seen_key : {s b c : Text} → Seen (sign s) b c → begins_key_at b ≡ is_text s (codes "[")
unfolding begins_key_at
seen_key tok = ap begins_key_by tok.lexeme_is

-- ---- k: e

pub valued_there : {f : Found} {b c d : Text} (limit : ℕ) (k : Key) → Seen (sign (codes ":")) b c → read limit (goal.Expression 2 true) c ≡ Some (f, d) → behind_key (read limit) k b ≡ Some (pair_found k f, d)
unfolding behind_key valued
valued_there limit k tok h = rw (sees_by (codes ":") tok, tok.after_is, h)

-- whether the token begins a property by its key alone
abbrev pub begins_by_key : Option Lexeme → Bool
begins_by_key (Some (word x)) = false
begins_by_key (Some (sign s)) = is_text s (codes "[")
begins_by_key o = true

-- A key begins by a name, or by a token that is no mark.
pub data KeyOpens : Bool → Term → Text → Text → Type 0 where
  by_word : {x a b : Text} → Seen (word x) a b → KeyOpens false (name_of x) a b
  by_token : {computed : Bool} {k : Term} {a b : Text} → begins_by_key (lexeme a) ≡ true → KeyOpens computed k a b

pub record KeyItem (computed : Bool) (k : Term) (a b : Text) : Type 0 where
  pub key_read : IsReadKey computed k a b
  pub opens : KeyOpens computed k a b

name_goes : (sub : Goal → Text → Reading Found) {x a b : Text} → Seen (word x) a b → begins_key_at b ≡ false → sees (codes "*") b ≡ false → sees (codes ":") b || sees (codes "(") b ≡ true → property_item sub a ≡ behind_key sub (false, name_of x) b
name_goes sub {x} {b = b} tok h h' is = named_there sub tok ∙ plain_name sub x b h h' ∙ rw is

pub name_item : {x a b : Text} → Seen (word x) a b → KeyItem false (name_of x) a b
name_item tok = record { key_read = name_key_read tok; opens = by_word tok }

key_goes : (sub : Goal → Text → Reading Found) (o : Option Lexeme) (a : Text) → begins_by_key o ≡ true → property_by sub o a ≡ (key sub a >>= behind_key sub)
key_goes sub (Some (word x)) a h = absurd (false≢true h)
key_goes sub (Some (sign s)) a h = rw (
  not-true (is_text s (codes "...")) (among (λ t. not (is_text t (codes "..."))) (codes "[" ∷ []) s refl (or_left (is_text s (codes "[")) false h)),
  not-true (is_text s (codes "*")) (among (λ t. not (is_text t (codes "*"))) (codes "[" ∷ []) s refl (or_left (is_text s (codes "[")) false h)),
)
key_goes sub None a h = refl
key_goes sub (Some (private_name x)) a h = refl
key_goes sub (Some (number x)) a h = refl
key_goes sub (Some (big_integer x)) a h = refl
key_goes sub (Some (string x v)) a h = refl
key_goes sub (Some (regexp x v)) a h = refl
key_goes sub (Some (no_substitution x)) a h = refl
key_goes sub (Some (template_head x)) a h = refl
key_goes sub (Some (template_middle x)) a h = refl
key_goes sub (Some (template_tail x)) a h = refl

key_open : (o : Option Lexeme) → begins_by_key o ≡ true → is_closing o ≡ false
key_open (Some (word x)) h = absurd (false≢true h)
key_open (Some (sign s)) h = not-true (is_one_of s (codes ")" ∷ codes "]" ∷ codes "}" ∷ [])) (among (λ t. not (is_one_of t (codes ")" ∷ codes "]" ∷ codes "}" ∷ []))) (codes "[" ∷ []) s refl (or_left (is_text s (codes "[")) false h))
key_open None h = refl
key_open (Some (private_name x)) h = refl
key_open (Some (number x)) h = refl
key_open (Some (big_integer x)) h = refl
key_open (Some (string x v)) h = refl
key_open (Some (regexp x v)) h = refl
key_open (Some (no_substitution x)) h = refl
key_open (Some (template_head x)) h = refl
key_open (Some (template_middle x)) h = refl
key_open (Some (template_tail x)) h = refl

other_goes : {computed : Bool} {k : Term} {a b : Text} (limit : ℕ) → IsReadKey computed k a b → begins_by_key (lexeme a) ≡ true → depth k ≤ limit → property_item (read limit) a ≡ behind_key (read limit) (computed, k) b
unfolding property_item
other_goes {a = a} limit x h fits = key_goes (read limit) (lexeme a) a h ∙ ap (λ r. r >>= behind_key (read limit)) (x.reads limit fits)

opens_open : {computed : Bool} {k : Term} {a b : Text} → KeyOpens computed k a b → is_closing (lexeme a) ≡ false
opens_open (by_word tok) = ap is_closing tok.lexeme_is
opens_open {a = a} (by_token h) = key_open (lexeme a) h

pub item_open : {computed : Bool} {k : Term} {a b : Text} → KeyItem computed k a b → is_closing (lexeme a) ≡ false
item_open x = opens_open x.opens

opens_goes : {computed : Bool} {k : Term} {a b : Text} → KeyOpens computed k a b → IsReadKey computed k a b → (limit : ℕ) → depth k ≤ limit → begins_key_at b ≡ false → sees (codes "*") b ≡ false → sees (codes ":") b || sees (codes "(") b ≡ true → property_item (read limit) a ≡ behind_key (read limit) (computed, k) b
opens_goes (by_word tok) x limit fits h h' is = name_goes (read limit) tok h h' is
opens_goes (by_token opens) x limit fits h h' is = other_goes limit x opens fits

-- behind a key a property goes on by `:` or `(`
pub item_goes : {computed : Bool} {k : Term} {a b : Text} → KeyItem computed k a b → (limit : ℕ) → depth k ≤ limit → begins_key_at b ≡ false → sees (codes "*") b ≡ false → sees (codes ":") b || sees (codes "(") b ≡ true → property_item (read limit) a ≡ behind_key (read limit) (computed, k) b
item_goes x limit fits h h' is = opens_goes x.opens x.key_read limit fits h h' is

other_item : {computed : Bool} {k : Term} {a b : Text} → IsReadKey computed k a b → begins_by_key (lexeme a) ≡ true → KeyItem computed k a b
other_item x h = record { key_read = x; opens = by_token h }

pub string_item : {raw v a b : Text} → Seen (string raw v) a b → KeyItem false (string_of v) a b
string_item tok = other_item (string_key_read tok) (ap begins_by_key tok.lexeme_is)

pub number_item : {raw a b : Text} → Seen (number raw) a b → KeyItem false (number_of raw) a b
number_item tok = other_item (number_key_read tok) (ap begins_by_key tok.lexeme_is)

pub bigint_item : {raw a b : Text} → Seen (big_integer raw) a b → KeyItem false (of_text Kind.BigIntLiteral raw) a b
bigint_item tok = other_item (bigint_key_read tok) (ap begins_by_key tok.lexeme_is)

pub computed_item : {n : ℕ} {e : Term} {a b c d : Text} → Seen (sign (codes "[")) a b → StandsRead true n e b c → Seen (sign (codes "]")) c d → KeyItem true e a d
computed_item tok x tok' = other_item (computed_key_read tok x tok') (ap begins_by_key tok.lexeme_is)

pub item_key : {computed : Bool} {k : Term} {a b : Text} → KeyItem computed k a b → IsReadKey computed k a b
item_key x = x.key_read

pub item_utf8 : {computed : Bool} {k : Term} {a b : Text} → KeyItem computed k a b → IsUtf8 b
item_utf8 x = let r = x.key_read in r.utf8

pub colon_goes : {b c : Text} → Seen (sign (codes ":")) b c → sees (codes ":") b || sees (codes "(") b ≡ true
colon_goes tok = rw (sees_by (codes ":") tok)

pub property_field : {n : ℕ} {computed : Bool} {k e : Term} {a b c d : Text} → KeyItem computed k a b → Seen (sign (codes ":")) b c → StandsRead true n e c d → FoundItem property_of false (property (codes "init") false false computed k e) a d
property_field {n} {computed} {k} {e} x tok y = let r = y.read in let kr = x.key_read in record {
  found = whole (property (codes "init") false false computed k e) 0 y.barred;
  tree_is = refl;
  cover_is = refl;
  utf8 = y.utf8;
  reads = λ limit fits. some_item false (let s1 = kr.shorter in let s2 = tok.shorter in let s3 = r.shorter in omega arith) (item_open x)
      (λ h. item_goes x limit (omega arith) (seen_key tok) (sees_by (codes "*") tok) (colon_goes tok) ∙ valued_there limit (computed, k) tok (found_expression r limit (omega arith) h)) (λ h. absurd (false≢true h));
}

-- ---- a name alone

separate_key : (o : Option Lexeme) → separates o ≡ true → begins_key_by o ≡ false
separate_key (Some (sign s)) h = not-true (is_text s (codes "[")) (among (λ t. not (is_text t (codes "["))) (codes ")" ∷ codes "]" ∷ codes "}" ∷ codes "," ∷ []) s refl h)
separate_key None h = refl
separate_key (Some (word x)) h = absurd (false≢true h)
separate_key (Some (private_name x)) h = absurd (false≢true h)
separate_key (Some (number x)) h = absurd (false≢true h)
separate_key (Some (big_integer x)) h = absurd (false≢true h)
separate_key (Some (string x v)) h = absurd (false≢true h)
separate_key (Some (regexp x v)) h = absurd (false≢true h)
separate_key (Some (no_substitution x)) h = absurd (false≢true h)
separate_key (Some (template_head x)) h = absurd (false≢true h)
separate_key (Some (template_middle x)) h = absurd (false≢true h)
separate_key (Some (template_tail x)) h = absurd (false≢true h)

begins_none : (b : Text) → separates (lexeme b) ≡ true → begins_key_at b ≡ false
unfolding begins_key_at
begins_none b h = separate_key (lexeme b) h

alone_there : (sub : Goal → Text → Reading Found) {x : Text} (b : Text) → is_reserved x ≡ false → separates (lexeme b) ≡ true → shorthand sub x b ≡ Some (shorthand_found x, b)
unfolding shorthand
alone_there sub b free h = rw (free, no_sign_by separates (codes "=") b h refl)

shorthand_there : (sub : Goal → Text → Reading Found) {x a b : Text} → is_reserved x ≡ false → Seen (word x) a b → separates (lexeme b) ≡ true → property_item sub a ≡ Some (shorthand_found x, b)
shorthand_there sub {x} {a} {b} free tok h = named_there sub tok ∙ plain_name sub x b (begins_none b h) (no_sign_by separates (codes "*") b h refl) ∙ rw (no_sign_by separates (codes ":") b h refl, no_sign_by separates (codes "(") b h refl) (alone_there sub b free h)

pub shorthand_reads : (limit : ℕ) {x a b : Text} → is_reserved x ≡ false → Seen (word x) a b → ReadsItem false false (property_of limit) (shorthand_found x) a b
shorthand_reads limit free tok = separate_item false tok.shorter (ap is_closing tok.lexeme_is) (λ h. shorthand_there (read limit) free tok h) (λ h. absurd (false≢true h))

pub shorthand_field : {x a b : Text} → is_reserved x ≡ false → Seen (word x) a b → FoundItem property_of false (property (codes "init") false true false (name_of x) (identifier_of x)) a b
shorthand_field {x} free tok = record {
  found = shorthand_found x;
  tree_is = refl;
  cover_is = refl;
  utf8 = tok.utf8;
  reads = λ limit fits. shorthand_reads limit free tok;
}

-- ---- a spread

pub spread_there : {f : Found} {a m b : Text} (limit : ℕ) → Seen (sign (codes "...")) a m → read limit (goal.Expression 2 true) m ≡ Some (f, b) → property_item (read limit) a ≡ Some (spread_of f, b)
unfolding property_item spread
spread_there limit tok h = rw (tok.lexeme_is, tok.after_is, h)

pub spread_field : {n : ℕ} {e : Term} {a m b : Text} → Seen (sign (codes "...")) a m → StandsRead true n e m b → FoundItem property_of false (of_part Kind.SpreadElement e) a b
spread_field {e = e} tok x = let r = x.read in record {
  found = whole (of_part Kind.SpreadElement e) 0 x.barred;
  tree_is = refl;
  cover_is = refl;
  utf8 = x.utf8;
  reads = λ limit fits. some_item false (let s1 = tok.shorter in let s2 = r.shorter in omega arith) (ap is_closing tok.lexeme_is) (λ h. spread_there limit tok (found_expression r limit (omega arith) h)) (λ h. absurd (false≢true h));
}
