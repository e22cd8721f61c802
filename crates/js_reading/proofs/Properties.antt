-- Methods and accessors of an object that stand in a text are read.
use Rattle.std.proofs.Common.{◌≡◌, ◌≤◌, ℕ, suc, Bool, true, false, not, ◌||◌, [], ◌∷◌, Some, refl, ◌∙◌, ap, arith, codes}
use Rattle.std.specs.List.{list_all}
use Rattle.std.proofs.lemmas.Bool.{false≢true, not-true}
use Rattle.js_term.specs.Term.{Text, is_text, Term, depth}
use Rattle.js_syntax.specs.Nodes.{property}
use Rattle.js_syntax.specs.Tokens.{word, sign}
use Rattle.js_syntax.proofs.Fronts.{among}
use Rattle.js_tokens.specs.Next.{lexeme}
use Rattle.js_reading.specs.declared.goal.Goal.{Goal}
use Rattle.js_reading.specs.Reading.{Found, Reading, sees, begins_key_by, begins_key_at}
use Rattle.js_reading.specs.Literals.{modifies_method, is_accessor, takes_comma, method_property, marked_method, accessor_property, behind_key, named_property, property_item}
use Rattle.js_reading.specs.Read.{read}
use Rattle.js_reading.proofs.TokensThere.{Seen}
use Rattle.js_reading.proofs.TokensEnd.{lexeme_sees}
use Rattle.js_reading.proofs.Lists.{is_closing, some_item}
use Rattle.js_reading.proofs.Listings.{FoundItem}
use Rattle.js_reading.proofs.Grouped.{property_of}
use Rattle.js_reading.proofs.Templating.{IsReadKey}
use Rattle.js_reading.proofs.Fields.{KeyItem, item_open, item_goes}
use Rattle.js_reading.proofs.Functions.{IsReadStar, IsReadMethod}

-- ---- methods

method_behind : (computed : Bool) (k : Term) {f : Term} {a b : Text} → IsReadMethod true [] [] f a b → (limit : ℕ) → depth f ≤ suc limit → behind_key (read limit) (computed, k) a ≡ Some (method_property (codes "init") true (computed, k) f, b)
unfolding behind_key sees
method_behind computed k x limit fits = rw (x.opens, x.reads limit fits)

paren_sees : (a : Text) → lexeme a ≡ Some (sign (codes "(")) → sees (codes ":") a || sees (codes "(") a ≡ true
unfolding sees
paren_sees a is = rw is

paren_no_key : (a : Text) → lexeme a ≡ Some (sign (codes "(")) → begins_key_at a ≡ false
unfolding begins_key_at
paren_no_key a is = rw is

pub method_property_read : {computed : Bool} {k f : Term} {a b c : Text} → KeyItem computed k a b → IsReadMethod true [] [] f b c → FoundItem property_of false (property (codes "init") true false computed k f) a c
method_property_read {computed} {k} {f} {a} {b} x y = let kr = x.key_read in record {
  found = method_property (codes "init") true (computed, k) f;
  tree_is = refl;
  cover_is = refl;
  utf8 = y.utf8;
  reads = λ limit fits. some_item false (let s1 = kr.shorter in let s2 = y.shorter in omega arith) (item_open x)
      (λ h. item_goes x limit (omega arith) (paren_no_key b y.opens) (lexeme_sees (codes "*") b _ y.opens) (paren_sees b y.opens) ∙ method_behind computed k y limit (omega arith))
      (λ h. absurd (false≢true h));
}

-- a method with marks
marked_there : (async s : Text) {computed : Bool} {k f : Term} {a b c : Text} → IsReadKey computed k a b → IsReadMethod true async s f b c → (limit : ℕ) → depth k ≤ limit → depth f ≤ suc limit → marked_method (read limit) async s a ≡ Some (method_property (codes "init") true (computed, k) f, c)
unfolding marked_method
marked_there async s x y limit fits fits' = rw (x.reads limit fits, y.reads limit fits')

generator_there : (sub : Goal → Text → Reading Found) {a b : Text} → Seen (sign (codes "*")) a b → property_item sub a ≡ marked_method sub [] (codes "*") b
unfolding property_item
generator_there sub tok = rw (tok.lexeme_is, tok.after_is)

pub generator_property_read : {computed : Bool} {k f : Term} {a b c d : Text} → Seen (sign (codes "*")) a b → IsReadKey computed k b c → IsReadMethod true [] (codes "*") f c d → FoundItem property_of false (property (codes "init") true false computed k f) a d
generator_property_read {computed} {k} {f} tok x y = record {
  found = method_property (codes "init") true (computed, k) f;
  tree_is = refl;
  cover_is = refl;
  utf8 = y.utf8;
  reads = λ limit fits. some_item false (let s0 = tok.shorter in let s1 = x.shorter in let s2 = y.shorter in omega arith) (ap is_closing tok.lexeme_is)
      (λ h. generator_there (read limit) tok ∙ marked_there [] (codes "*") x y limit (omega arith) (omega arith))
      (λ h. absurd (false≢true h));
}

async_there : (sub : Goal → Text → Reading Found) {s a b c : Text} → Seen (word (codes "async")) a b → modifies_method b ≡ true → IsReadStar s b c → property_item sub a ≡ marked_method sub (codes "async") s c
unfolding property_item named_property
async_there sub tok h x = rw (tok.lexeme_is, tok.after_is, h, x.reads)

pub async_property_read : {s : Text} {computed : Bool} {k f : Term} {a b c d e : Text} → Seen (word (codes "async")) a b → modifies_method b ≡ true → IsReadStar s b c → IsReadKey computed k c d → IsReadMethod true (codes "async") s f d e → FoundItem property_of false (property (codes "init") true false computed k f) a e
async_property_read {s} {computed} {k} {f} tok h star x y = record {
  found = method_property (codes "init") true (computed, k) f;
  tree_is = refl;
  cover_is = refl;
  utf8 = y.utf8;
  reads = λ limit fits. some_item false (let s0 = tok.shorter in let s1 = x.shorter in let s2 = y.shorter in let s3 = star.short in omega arith) (ap is_closing tok.lexeme_is)
      (λ h'. async_there (read limit) tok h star ∙ marked_there (codes "async") s x y limit (omega arith) (omega arith))
      (λ h'. absurd (false≢true h'));
}

-- ---- accessors

-- `get` and `set` are no other word
pub not_accessor : (y x : Text) → list_all (λ t. not (is_text t y)) (codes "get" ∷ codes "set" ∷ []) ≡ true → is_accessor x ≡ true → is_text x y ≡ false
not_accessor y x apart is = not-true _ (among (λ t. not (is_text t y)) (codes "get" ∷ codes "set" ∷ []) x apart is)

accessor_there : (sub : Goal → Text → Reading Found) {x a b : Text} → is_accessor x ≡ true → Seen (word x) a b → begins_key_by (lexeme b) ≡ true → property_item sub a ≡ accessor_property sub x b
unfolding property_item named_property begins_key_at
accessor_there sub {x} h tok is = rw (tok.lexeme_is, tok.after_is, not_accessor (codes "async") x refl h, h, is)

accessor_reads : (kind : Text) {computed : Bool} {k f : Term} {a b c : Text} → IsReadKey computed k a b → IsReadMethod (takes_comma kind) [] [] f b c → (limit : ℕ) → depth k ≤ limit → depth f ≤ suc limit → accessor_property (read limit) kind a ≡ Some (method_property kind false (computed, k) f, c)
unfolding accessor_property
accessor_reads kind x y limit fits fits' = rw (x.reads limit fits, y.reads limit fits')

pub accessor_property_read : {kind : Text} {computed : Bool} {k f : Term} {a b c d : Text} → is_accessor kind ≡ true → Seen (word kind) a b → IsReadKey computed k b c → IsReadMethod (takes_comma kind) [] [] f c d → FoundItem property_of false (property kind false false computed k f) a d
accessor_property_read {kind} {computed} {k} {f} is tok x y = record {
  found = method_property kind false (computed, k) f;
  tree_is = refl;
  cover_is = refl;
  utf8 = y.utf8;
  reads = λ limit fits. some_item false (let s0 = tok.shorter in let s1 = x.shorter in let s2 = y.shorter in omega arith) (ap is_closing tok.lexeme_is)
      (λ h. accessor_there (read limit) is tok x.begins ∙ accessor_reads kind x y limit (omega arith) (omega arith))
      (λ h. absurd (false≢true h));
}
