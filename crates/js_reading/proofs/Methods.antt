-- Methods and accessors that stand in a text, as properties of an object and as elements of a class, are read.
use Rattle.std.proofs.Common.{◌≡◌, Bool, true, false, [], refl, ap, codes}
use Rattle.std.specs.Str.{IsUtf8}
use Rattle.std.proofs.lemmas.Bool.{false≢true}
use Rattle.js_term.specs.Term.{Text, Term}
use Rattle.js_syntax.specs.Nodes.{private_of, property, method_node}
use Rattle.js_syntax.specs.Tokens.{word, private_name, sign}
use Rattle.js_syntax.specs.Edges.{no_private, is_constructor}
use Rattle.js_syntax.specs.Spelling as spell
use Rattle.js_syntax.specs.Spelling.{Async, Star}
use Rattle.js_tokens.specs.Next.{lexeme}
use Rattle.js_reading.specs.Reading.{same_line, sees, begins_key_by, begins_key_at}
use Rattle.js_reading.specs.Literals.{modifies_method, is_accessor, takes_comma}
use Rattle.js_reading.proofs.TokensThere.{Seen, see_sign, see_word, on_line}
use Rattle.js_reading.proofs.Each.{no_sign_by}
use Rattle.js_reading.proofs.Listings.{FoundItem}
use Rattle.js_reading.proofs.Grouped.{property_of}
use Rattle.js_reading.proofs.Templating.{IsReadMemberKey, public_key_read, private_key_read}
use Rattle.js_reading.proofs.Fields.{KeyOpens, by_token, begins_by_key, KeyItem, item_utf8}
use Rattle.js_reading.proofs.Functions.{IsReadStar, IsReadMethod}
use Rattle.js_reading.proofs.FunctionTexts.{async_utf8, star_utf8, star_found}
use Rattle.js_reading.proofs.Properties.{method_property_read, generator_property_read, async_property_read, accessor_property_read}
use Rattle.js_reading.proofs.Elements.{IsReadMarked, accessor_element_read}

-- ---- keys

-- the key of a property, or a private name
pub data MemberKeyFound : Bool → Term → Text → Text → Type 0 where
  by_key : {computed : Bool} {k : Term} {a b : Text} → KeyItem computed k a b → MemberKeyFound computed k a b
  by_private : {x a b : Text} → Seen (private_name x) a b → MemberKeyFound false (private_of x) a b

pub found_utf8 : {computed : Bool} {k : Term} {a b : Text} → MemberKeyFound computed k a b → IsUtf8 b
found_utf8 (by_key x) = item_utf8 x
found_utf8 (by_private tok) = tok.utf8

pub found_opens : {computed : Bool} {k : Term} {a b : Text} → MemberKeyFound computed k a b → KeyOpens computed k a b
found_opens (by_key x) = x.opens
found_opens (by_private tok) = by_token (ap begins_by_key tok.lexeme_is)

pub found_member : {computed : Bool} {k : Term} {a b : Text} → MemberKeyFound computed k a b → IsReadMemberKey computed k a b
found_member (by_key x) = public_key_read x.key_read
found_member (by_private tok) = private_key_read tok

found_public : {computed : Bool} {k : Term} {a b : Text} → MemberKeyFound computed k a b → no_private k ≡ true → KeyItem computed k a b
found_public (by_key x) h = x
found_public (by_private tok) h = absurd (false≢true h)

-- ---- marks

-- what stands before the key of a method, as it is read
pub data MarksFound : Text → Text → Text → Text → Type 0 where
  no_marks : {a : Text} → MarksFound [] [] a a
  star_mark : {a b : Text} → Seen (sign (codes "*")) a b → MarksFound [] (codes "*") a b
  async_mark : {s a b c : Text} → Seen (word (codes "async")) a b → modifies_method b ≡ true → IsReadStar s b c → MarksFound (codes "async") s a c

pub marks_utf8 : {async s a b c : Text} → Async async a b → Star s b c → IsUtf8 a → IsUtf8 c
marks_utf8 mark star u = star_utf8 star (async_utf8 mark u)

key_modifies : (b : Text) → same_line b ≡ true → begins_key_by (lexeme b) ≡ true → modifies_method b ≡ true
unfolding modifies_method begins_key_at
key_modifies b line h = rw (line, h)

star_modifies : {b c : Text} → same_line b ≡ true → Seen (sign (codes "*")) b c → modifies_method b ≡ true
unfolding modifies_method begins_key_at sees
star_modifies line tok = rw (line, tok.lexeme_is)

-- a key stands behind the star, if there is one
async_modifies : {s b c : Text} → Star s b c → IsUtf8 b → same_line b ≡ true → begins_key_by (lexeme c) ≡ true → modifies_method b ≡ true
async_modifies {b = b} spell.no_star u line h = key_modifies b line h
async_modifies (spell.with_star tok) u line h = star_modifies line (see_sign tok u)

pub marks_found : {async s a b c : Text} → Async async a b → Star s b c → IsUtf8 a → begins_key_by (lexeme c) ≡ true → MarksFound async s a c
marks_found spell.no_async spell.no_star u h = no_marks
marks_found spell.no_async (spell.with_star tok) u h = star_mark (see_sign tok u)
marks_found {c = c} (spell.with_async tok line) star u h = let t = see_word tok u in async_mark t (async_modifies star t.utf8 (on_line _ line) h) (star_found star t.utf8 (no_sign_by begins_key_by (codes "*") c h refl))

-- ---- as properties

method_found : {async s : Text} {computed : Bool} {k f : Term} {a b c d : Text} → MarksFound async s a b → KeyItem computed k b c → IsReadMethod true async s f c d → FoundItem property_of false (property (codes "init") true false computed k f) a d
method_found no_marks x y = method_property_read x y
method_found (star_mark tok) x y = generator_property_read tok x.key_read y
method_found (async_mark tok h star) x y = async_property_read tok h star x.key_read y

pub method_field : {async s : Text} {computed : Bool} {k f : Term} {a b c d g : Text} → Async async a b → Star s b c → IsUtf8 a → MemberKeyFound computed k c d → no_private k ≡ true → IsReadMethod true async s f d g → FoundItem property_of false (property (codes "init") true false computed k f) a g
method_field mark star u x h y = let m = found_member x in method_found (marks_found mark star u m.begins) (found_public x h) y

pub accessor_field : {kind : Text} {computed : Bool} {k f : Term} {a b c d : Text} → is_accessor kind ≡ true → Seen (word kind) a b → MemberKeyFound computed k b c → no_private k ≡ true → IsReadMethod (takes_comma kind) [] [] f c d → FoundItem property_of false (property kind false false computed k f) a d
accessor_field is tok x h y = let r = found_public x h in accessor_property_read is tok r.key_read y

-- ---- as elements

pub accessor_marked : {static kind : Text} {computed : Bool} {k f : Term} {a b c d : Text} → is_constructor static computed k ≡ false → is_accessor kind ≡ true → Seen (word kind) a b → MemberKeyFound computed k b c → IsReadMethod (takes_comma kind) [] [] f c d → IsReadMarked static (method_node kind computed static k f) a d
accessor_marked {static} h is tok x y = accessor_element_read static h is tok (found_member x) y
