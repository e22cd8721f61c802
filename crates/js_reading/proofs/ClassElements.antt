-- Elements of classes that stand in a text are read, from what is read of their parts.
use Rattle.std.proofs.Common.{◌≡◌, ◌≤◌, ◌<◌, ℕ, suc, Bool, true, false, not, ◌&&◌, ◌||◌, if◌then◌else◌, [], length, Option, Some, None, refl, subst, ◌∙◌, ap, arith, codes}
use Rattle.std.specs.Str.{IsUtf8}
use Rattle.std.proofs.lemmas.Bool.{false≢true, not-true, and_parts, and_left, and_right, or_left}
use Rattle.js_term.specs.Term.{Text, is_text, Term, absent, list, node, depth}
use Rattle.js_term.specs.Node.{name_of}
use Rattle.js_syntax.specs.Nodes.{method_node, field_node}
use Rattle.js_syntax.specs.Tokens.{Lexeme, word, private_name, number, big_integer, string, regexp, no_substitution, template_head, template_middle, template_tail, sign}
use Rattle.js_syntax.specs.Edges.{is_constructor, Edge, accessor, edge, field_edge, goes_on_with}
use Rattle.js_syntax.specs.Edges as edges
use Rattle.js_syntax.specs.Spelling.{Async, Star, Semicolon}
use Rattle.js_syntax.proofs.Fronts.{same_text}
use Rattle.js_tokens.specs.Next.{lexeme, after}
use Rattle.js_reading.specs.declared.goal.Goal.{Goal}
use Rattle.js_reading.specs.Reading.{Found, Reading, is_sign, sees, sees_word, same_line, at_end, begins_key_by, begins_key_at, goes_on_at, left_out, semicolon}
use Rattle.js_reading.specs.Literals.{modifies_method, modifies_element, is_accessor, method_kind, field, plain_element, word_element, element_by, marked_element}
use Rattle.js_reading.specs.Read.{read}
use Rattle.js_reading.proofs.Each.{or_both, no_sign_by, no_word_by}
use Rattle.js_reading.proofs.TokensThere.{Seen, sees_by, sees_word_by}
use Rattle.js_reading.proofs.TokensEnd.{Ended, by_sign, by_stop, ended, end_none, semicolon_read, semicolon_utf8, semicolon_short}
use Rattle.js_reading.proofs.Lists.{sees_sign}
use Rattle.js_reading.proofs.Follows.{holds, either_case}
use Rattle.js_reading.proofs.Listings.{StandsRead}
use Rattle.js_reading.proofs.Ending.{behind_semicolon}
use Rattle.js_reading.proofs.Fields.{KeyOpens, by_word, by_token, begins_by_key}
use Rattle.js_reading.proofs.Templating.{IsReadMemberKey}
use Rattle.js_reading.specs.Functions.{initializer}
use Rattle.js_reading.proofs.Functions.{IsReadMethod, IsReadInitializer, no_initializer_there, initializer_read}
use Rattle.js_reading.proofs.Classes.{begins_element, follows_element, IsReadElement}
use Rattle.js_reading.proofs.Elements.{IsReadMarked, plain_element_read, generator_element_read, async_element_read}
use Rattle.js_reading.proofs.Methods.{MemberKeyFound, found_utf8, found_opens, found_member, MarksFound, no_marks, star_mark, async_mark, marks_found}

-- ---- what stands behind a key

-- Nothing there makes a mark of the key: no key, `*` or `{`; or behind a line end what goes on with no field named so.
data KeyEnds (e : Edge) (b : Text) : Type 0 where
  by_other : modifies_element b ≡ false → KeyEnds e b
  by_line : same_line b ≡ false → goes_on_at e (lexeme b) ≡ false → KeyEnds e b

sign_ends : {e : Edge} (s b : Text) → lexeme b ≡ Some (sign s) → is_text s (codes "[") || is_text s (codes "*") || is_text s (codes "{") ≡ false → KeyEnds e b
unfolding modifies_element begins_key_at sees
sign_ends s b is h = by_other (rw is h)

none_ends : {e : Edge} (b : Text) → lexeme b ≡ None → KeyEnds e b
unfolding modifies_element begins_key_at sees
none_ends b is = by_other (rw is refl)

left_ends : (e : Edge) (b : Text) → left_out e b ≡ true → KeyEnds e b
unfolding left_out
left_ends e b h = either_case (sees (codes "}") b || at_end b) _ h
    (λ h. either_case (sees (codes "}") b) (at_end b) h (λ is. sign_ends (codes "}") b (sees_sign (codes "}") b is) refl) (λ is. none_ends b (end_none b is)))
    (λ h. let (line, stops) = and_parts (not (same_line b)) (not (goes_on_at e (lexeme b))) h in by_line (not-true _ line) (not-true _ stops))

ended_ends : {e : Edge} {b c : Text} → Ended e b c → KeyEnds e b
ended_ends {b = b} (by_sign t) = sign_ends (codes ";") b t.lexeme_is refl
ended_ends {e} {b} (by_stop same st) = left_ends e b st.left

-- behind a name that is no mark
record NoMark (static x b : Text) : Type 0 where
  no_async : is_text x (codes "async") && modifies_method b ≡ false
  no_accessor : is_accessor x && begins_key_at b ≡ false
  no_static : static ≡ [] → is_text x (codes "static") && modifies_element b ≡ false

other_method : (b : Text) → modifies_element b ≡ false → modifies_method b ≡ false
unfolding modifies_element modifies_method
other_method b h = and_right (same_line b) _ (or_both _ _ h).0

other_key : (b : Text) → modifies_element b ≡ false → begins_key_at b ≡ false
unfolding modifies_element
other_key b h = (or_both _ _ (or_both _ _ h).0).0

line_method : (b : Text) → same_line b ≡ false → modifies_method b ≡ false
unfolding modifies_method
line_method b h = and_left _ _ h

accessor_stops : (x b : Text) (e : Edge) → goes_on_at (if is_text x (codes "get") || is_text x (codes "set") then accessor else e) (lexeme b) ≡ false → is_accessor x && begins_key_at b ≡ false
unfolding begins_key_at
accessor_stops x b e h = go (is_text x (codes "get")) (is_text x (codes "set")) (lexeme b) h
  where
    key : (o : Option Lexeme) → goes_on_at accessor o ≡ false → begins_key_by o ≡ false
    key None h = refl
    key (Some l) h = h

    go : (p q : Bool) (o : Option Lexeme) → goes_on_at (if p || q then accessor else e) o ≡ false → (p || (q || false)) && begins_key_by o ≡ false
    go true q o h = key o h
    go false true o h = key o h
    go false false o h = refl

static_stops : (b : Text) → goes_on_at edges.static (lexeme b) ≡ false → modifies_element b ≡ false
unfolding modifies_element begins_key_at sees
static_stops b h = go (lexeme b) h
  where
    same : (p q r : Bool) → p || (q || (r || false)) ≡ false → p || q || r ≡ false
    same true q r h = h
    same false true r h = h
    same false false true h = h
    same false false false h = refl

    go : (o : Option Lexeme) → goes_on_at edges.static o ≡ false → begins_key_by o || is_sign (codes "*") o || is_sign (codes "{") o ≡ false
    go None h = refl
    go (Some (sign s)) h = same (is_text s (codes "[")) (is_text s (codes "*")) (is_text s (codes "{")) h
    go (Some (word x)) h = h
    go (Some (private_name x)) h = h
    go (Some (number x)) h = h
    go (Some (big_integer x)) h = h
    go (Some (string x v)) h = h
    go (Some (regexp x v)) h = refl
    go (Some (no_substitution x)) h = refl
    go (Some (template_head x)) h = refl
    go (Some (template_middle x)) h = refl
    go (Some (template_tail x)) h = refl

static_name : (x b : Text) → goes_on_at (field_edge [] false (name_of x) absent) (lexeme b) ≡ false → is_text x (codes "static") && modifies_element b ≡ false
static_name x b h = go (is_text x (codes "static")) refl
  where
    go : (t : Bool) → is_text x (codes "static") ≡ t → t && modifies_element b ≡ false
    go false e = refl
    go true e = static_stops b (subst (λ (y : Text). goes_on_at (field_edge [] false (name_of y) absent) (lexeme b) ≡ false) (same_text x (codes "static") e) h)

no_mark : (static x b : Text) → KeyEnds (field_edge static false (name_of x) absent) b → NoMark static x b
no_mark static x b (by_other h) = record { no_async = and_right _ _ (other_method b h); no_accessor = and_right _ _ (other_key b h); no_static = λ s. and_right _ _ h }
no_mark static x b (by_line line stops) = record {
  no_async = and_right _ _ (line_method b line);
  no_accessor = accessor_stops x b _ stops;
  no_static = λ s. static_name x b (subst (λ (z : Text). goes_on_at (field_edge z false (name_of x) absent) (lexeme b) ≡ false) s stops);
}

-- ---- an element without a mark

word_plain : (sub : Goal → Text → Reading Found) (static : Text) {x a b : Text} → Seen (word x) a b → NoMark static x b → marked_element sub static a ≡ plain_element sub static a
unfolding marked_element word_element
word_plain sub static tok free = rw (tok.lexeme_is, tok.after_is, free.no_async, free.no_accessor)

token_by : (sub : Goal → Text → Reading Found) (static : Text) (o : Option Lexeme) (a : Text) → begins_by_key o ≡ true → element_by sub static o a ≡ plain_element sub static a
token_by sub static (Some (sign s)) a h = rw (ap (λ (z : Text). is_text z (codes "*")) (same_text s (codes "[") h))
token_by sub static (Some (word x)) a h = absurd (false≢true h)
token_by sub static None a h = refl
token_by sub static (Some (private_name x)) a h = refl
token_by sub static (Some (number x)) a h = refl
token_by sub static (Some (big_integer x)) a h = refl
token_by sub static (Some (string x v)) a h = refl
token_by sub static (Some (regexp x v)) a h = refl
token_by sub static (Some (no_substitution x)) a h = refl
token_by sub static (Some (template_head x)) a h = refl
token_by sub static (Some (template_middle x)) a h = refl
token_by sub static (Some (template_tail x)) a h = refl

token_plain : (sub : Goal → Text → Reading Found) (static a : Text) → begins_by_key (lexeme a) ≡ true → marked_element sub static a ≡ plain_element sub static a
unfolding marked_element
token_plain sub static a h = token_by sub static (lexeme a) a h

key_plain : (sub : Goal → Text → Reading Found) (static : Text) {computed : Bool} {k : Term} {a b : Text} → KeyOpens computed k a b → KeyEnds (field_edge static computed k absent) b → marked_element sub static a ≡ plain_element sub static a
key_plain sub static {b = b} (by_word {x} tok) ends = word_plain sub static tok (no_mark static x b ends)
key_plain sub static {a = a} (by_token h) ends = token_plain sub static a h

key_no_static : (static : Text) {computed : Bool} {k : Term} {a b : Text} → KeyOpens computed k a b → KeyEnds (field_edge static computed k absent) b → static ≡ [] → sees_word (codes "static") a && modifies_element (after a) ≡ false
key_no_static static {b = b} (by_word {x} tok) ends s = let free = no_mark static x b ends in rw (sees_word_by (codes "static") tok, tok.after_is) (free.no_static s)
key_no_static static {a = a} (by_token h) ends s = and_left _ _ (no_word_by begins_by_key (codes "static") a h refl)

-- ---- methods

method_there : (static : Text) {computed : Bool} {k f : Term} {a b c : Text} → IsReadMemberKey computed k a b → IsReadMethod true [] [] f b c → (limit : ℕ) → depth k ≤ limit → depth f ≤ suc limit →
    plain_element (read limit) static a ≡ Some (method_node (method_kind (is_constructor static computed k)) computed static k f, c)
unfolding plain_element sees
method_there static x y limit fits fits' = rw (x.reads limit fits, y.opens, y.reads limit fits')

key_begins : (a : Text) → begins_key_by (lexeme a) ≡ true → begins_element (lexeme a) ≡ true
key_begins a h = or_left (begins_key_by (lexeme a)) _ h

plain_method : (static : Text) {computed : Bool} {k f : Term} {a b c : Text} → MemberKeyFound computed k a b → IsReadMethod true [] [] f b c → IsReadMarked static (method_node (method_kind (is_constructor static computed k)) computed static k f) a c
plain_method static {a = a} {b = b} x y = let m = found_member x in let ends = sign_ends (codes "(") b y.opens refl in record {
  utf8 = y.utf8;
  shorter = let s1 = m.shorter in let s2 = y.shorter in omega arith;
  begun = key_begins a m.begins;
  no_static = λ s. key_no_static static (found_opens x) ends s;
  reads = λ limit fits h. key_plain (read limit) static (found_opens x) ends ∙ method_there static m y limit (omega arith) (omega arith);
}

pub constructor_element : {k f : Term} {a b c : Text} → is_constructor [] false k ≡ true → MemberKeyFound false k a b → IsReadMethod true [] [] f b c → IsReadElement (method_node (codes "constructor") false [] k f) a c
constructor_element {k} {f} {a} {c = c} h x y = plain_element_read (subst (λ v. IsReadMarked [] (method_node (method_kind v) false [] k f) a c) h (plain_method [] x y))

method_found : {static async s : Text} {computed : Bool} {k f : Term} {a b c d : Text} → is_constructor static computed k ≡ false → MarksFound async s a b → MemberKeyFound computed k b c → IsReadMethod true async s f c d → IsReadMarked static (method_node (codes "method") computed static k f) a d
method_found {static} {computed = computed} {k} {f} {a} {d = d} h no_marks x y = subst (λ v. IsReadMarked static (method_node (method_kind v) computed static k f) a d) h (plain_method static x y)
method_found {static} h (star_mark tok) x y = generator_element_read static h tok (found_member x) y
method_found {static} h (async_mark tok is star) x y = async_element_read static h tok is star (found_member x) y

pub method_marked : {static async s : Text} {computed : Bool} {k f : Term} {a b c d g : Text} → is_constructor static computed k ≡ false → Async async a b → Star s b c → IsUtf8 a → MemberKeyFound computed k c d → IsReadMethod true async s f d g → IsReadMarked static (method_node (codes "method") computed static k f) a g
method_marked h mark star u x y = let m = found_member x in method_found h (marks_found mark star u m.begins) x y

-- ---- fields

field_there : (static : Text) {computed : Bool} {k v : Term} {a b c d : Text} → IsReadMemberKey computed k a b → (limit : ℕ) → depth k ≤ limit → sees (codes "(") b ≡ false → initializer (read limit) true b ≡ Some (v, c) → semicolon (field_edge static computed k v) c ≡ Some (tt, d) →
    plain_element (read limit) static a ≡ Some (field_node computed static k v, d)
unfolding plain_element field
field_there static x limit fits open' is end = rw (x.reads limit fits, open', is, end)

-- a sign that stands before no element and is no semicolon
no_sign_before : {e : Edge} (s : Text) {c d : Text} → Ended e c d → follows_element (lexeme d) ≡ true → follows_element (Some (sign s)) ≡ false → is_text (codes ";") s ≡ false → sees s c ≡ false
no_sign_before s (by_sign t) h other apart = sees_by s t ∙ apart
no_sign_before s {d = d} (by_stop same st) h other apart = rw same (no_sign_by follows_element s d h other)

-- a field, by what is read behind its key
field_found : (static : Text) {computed : Bool} {k v : Term} {a b c d : Text} → MemberKeyFound computed k a b → KeyEnds (field_edge static computed k absent) b → IsUtf8 c → length c ≤ length b → (follows_element (lexeme d) ≡ true → sees (codes "(") b ≡ false) →
    ((limit : ℕ) → depth v ≤ limit → follows_element (lexeme d) ≡ true → initializer (read limit) true b ≡ Some (v, c)) → Semicolon (field_edge static computed k v) c d → IsReadMarked static (field_node computed static k v) a d
field_found static {a = a} x ends u short open' is end = let m = found_member x in record {
  utf8 = semicolon_utf8 end u;
  shorter = let s1 = m.shorter in let s2 = semicolon_short end u in omega arith;
  begun = key_begins a m.begins;
  no_static = λ s. key_no_static static (found_opens x) ends s;
  reads = λ limit fits h. key_plain (read limit) static (found_opens x) ends ∙ field_there static m limit (omega arith) (open' h) (is limit (omega arith) h) (semicolon_read end u);
}

pub bare_field : {static : Text} {computed : Bool} {k : Term} {a b c : Text} → MemberKeyFound computed k a b → Semicolon (field_edge static computed k absent) b c → IsReadMarked static (field_node computed static k absent) a c
bare_field {static} x end =
    let u = found_utf8 x in
    let z = ended end u in
    field_found static x (ended_ends z) u (omega arith) (λ h. no_sign_before (codes "(") z h refl refl) (λ limit fits h. no_initializer_there (read limit) true (no_sign_before (codes "=") z h refl refl)) end

-- the edge of a field is that of its initializer
value_edge : (static : Text) (computed : Bool) (k v : Term) → 0 < depth v → field_edge static computed k v ≡ edge v
value_edge static computed k absent some = absurd (omega arith)
value_edge static computed k (list ts) some = refl
value_edge static computed k (node j texts ts) some = refl

value_holds : {n : ℕ} (static : Text) (computed : Bool) (k : Term) {v : Term} {b c d : Text} → StandsRead true n v b c → Ended (field_edge static computed k v) c d → holds true (edge v) 1 c ≡ true
value_holds static computed k {v} {c = c} {d} x end = let r = x.read in let y = behind_semicolon x.utf8 r.ends (subst (λ e. Ended e c d) (value_edge static computed k v r.deep) end) in y.keeps

pub valued_field : {static : Text} {n : ℕ} {computed : Bool} {k v : Term} {a b c d g : Text} → MemberKeyFound computed k a b → Seen (sign (codes "=")) b c → StandsRead true n v c d → Semicolon (field_edge static computed k v) d g → IsReadMarked static (field_node computed static k v) a g
valued_field {static} {computed = computed} {k} {b = b} x tok v end =
    let y : IsReadInitializer true _ _ _ = initializer_read tok v in
    let z = ended end v.utf8 in
    field_found static x (sign_ends (codes "=") b tok.lexeme_is refl) v.utf8 y.short (λ h. sees_by (codes "(") tok) (λ limit fits h. y.reads limit fits (value_holds static computed k v z) (no_sign_before (codes "=") z h refl refl)) end
