-- Expressions and lists of expressions are read.
use Rattle.std.proofs.Common.{◌≡◌, ◌≤◌, ◌<◌, ℕ, Bool, true, false, List, [], ◌∷◌, length, Some, refl, sym, inl, ◌∙◌, ap, arith, codes}
use Rattle.std.specs.Str.{IsUtf8}
use Rattle.std.proofs.lemmas.Bool.{false≢true}
use Rattle.js_term.specs.Term.{Text, Term, absent, all, depth, depths}
use Rattle.js_term.specs.declared.kind.Kind.{Kind}
use Rattle.js_term.specs.Node.{sequence_of}
use Rattle.js_syntax.specs.Nodes.{of_part}
use Rattle.js_syntax.specs.Tokens.{sign}
use Rattle.js_syntax.specs.Edges.{edge, edge_last, is_simple_target, last_absent}
use Rattle.js_syntax.specs.Spelling.{is_several}
use Rattle.js_tokens.specs.Next.{lexeme}
use Rattle.js_reading.specs.declared.goal.Goal.TheVariants as goal
use Rattle.js_reading.specs.Reading.{Found, closed, Reading, sees, joined, trees, any_cover}
use Rattle.js_reading.specs.Parts.{part, expression, spread_of, spread, item, argument, element}
use Rattle.js_reading.specs.Read.{read}
use Rattle.js_reading.proofs.TokensThere.{Seen, sees_by}
use Rattle.js_reading.proofs.Opens.{begins, no_sign_there}
use Rattle.js_reading.proofs.Lists.{is_closing, is_end, begins_no_closer, ReadsItem, some_item, hole_item, ReadsAll, last_all, and_all, ReadsGroup, group_none, group_some, group_comma}
use Rattle.js_reading.proofs.Follows.{holds, end_holds, Ends}
use Rattle.js_reading.proofs.Climbs.{whole, IsRead, place_found, right_read, ends_low}

-- What stands as an expression is read, and UTF-8 is left.
pub record StandsRead (i : Bool) (n : ℕ) (e : Term) (a b : Text) : Type 0 where
  pub barred : Bool
  pub read : IsRead i (depth e) (whole e n barred) a b
  pub utf8 : IsUtf8 b
  -- a target that is no pattern
  pub simple : is_simple_target e ≡ true → barred ≡ false

pub stands : {i : Bool} {n : ℕ} {e : Term} {a b : Text} → IsRead i (depth e) (closed e n) a b → IsUtf8 b → StandsRead i n e a b
stands r u = record { barred = false; read = r; utf8 = u; simple = λ h. refl }

-- ---- expressions with commas between

pub record ExpressionsRead (i : Bool) (es : List Term) (a b : Text) : Type 0 where
  pub utf8 : IsUtf8 b
  pub shorter : length b < length a
  pub some : (e : Term) → edge_last (all (e ∷ es)) ≡ edge_last (all es)
  pub ends : Ends 2 (edge_last (all es))
  pub deep : 0 < depths (all es)
  pub reads : (limit : ℕ) → depths (all es) ≤ limit → ReadsAll false (holds i (edge_last (all es)) 1 b) (part (read limit) (goal.Expression 2 i)) es a b

pub part_item : {i : Bool} {d n : ℕ} {e : Term} {p : Bool} {a b : Text} → IsRead i d (whole e n p) a b → begins (lexeme a) ≡ true → (limit : ℕ) → d ≤ limit → ReadsItem false (holds i (edge e) 1 b) (part (read limit) (goal.Expression 2 i)) e a b
part_item {i} {e = e} {a = a} {b = b} r starts limit fits = some_item (holds i (edge e) 1 b) r.shorter (begins_no_closer a starts) (λ h. right_read r limit fits (end_holds i (edge e) 1 b h)) (λ h. right_read r limit fits h)

pub last_expression : {i : Bool} {n : ℕ} {e : Term} {a b : Text} → StandsRead i n e a b → begins (lexeme a) ≡ true → ExpressionsRead i (e ∷ []) a b
last_expression x starts = let r = x.read in record {
  utf8 = x.utf8;
  shorter = r.shorter;
  some = λ e. refl;
  ends = ends_low r.ends;
  deep = let h = r.deep in omega arith;
  reads = λ limit fits. last_all (part_item r starts limit (omega arith));
}

pub and_expression : {i : Bool} {n : ℕ} {e : Term} {es : List Term} {a b c d : Text} → StandsRead i n e a b → begins (lexeme a) ≡ true → Seen (sign (codes ",")) b c → ExpressionsRead i es c d → ExpressionsRead i (e ∷ es) a d
and_expression {i} {e = e} {es = es} {d = d} x starts tok rest = let r = x.read in record {
  utf8 = rest.utf8;
  shorter = let s1 = r.shorter in let s2 = tok.shorter in let s3 = rest.shorter in omega arith;
  some = λ e. refl;
  ends = rw (rest.some e) rest.ends;
  deep = let h = r.deep in omega arith;
  reads = λ limit fits. rw (rest.some e) (and_all (part_item r starts limit (omega arith)) tok (rest.reads limit (omega arith)));
}

pub record IsReadExpression (i : Bool) (e : Term) (a b : Text) : Type 0 where
  pub utf8 : IsUtf8 b
  pub shorter : length b < length a
  pub deep : 0 < depth e
  pub ends : Ends 2 (edge e)
  pub reads : (limit : ℕ) → depth e ≤ limit → holds i (edge e) 1 b ≡ true → sees (codes ",") b ≡ false → expression (read limit) i a ≡ Some (e, b)

expression_reads : (i ok : Bool) {es : List Term} {a b : Text} (limit : ℕ) → ReadsAll false ok (part (read limit) (goal.Expression 2 i)) es a b → ok ≡ true → sees (codes ",") b ≡ false → expression (read limit) i a ≡ Some (joined es, b)
unfolding expression
expression_reads i ok {a = a} limit r h h' = rw (r.separated (length a) [] (omega arith) refl h h')

pub single_read : {i : Bool} {n : ℕ} {e : Term} {a b : Text} → StandsRead i n e a b → begins (lexeme a) ≡ true → IsReadExpression i e a b
single_read {i} {e = e} {b = b} x starts = let l = last_expression x starts in let r = x.read in record {
  utf8 = x.utf8;
  shorter = r.shorter;
  deep = r.deep;
  ends = ends_low r.ends;
  reads = λ limit fits h h'. expression_reads i (holds i (edge e) 1 b) limit (l.reads limit (omega arith)) h h';
}

pub sequence_read : {i : Bool} {es : List Term} {a b : Text} → is_several es ≡ true → ExpressionsRead i es a b → IsReadExpression i (sequence_of (all es)) a b
sequence_read {es = []} h x = absurd (false≢true h)
sequence_read {es = e ∷ []} h x = absurd (false≢true h)
sequence_read {i} {es = e ∷ f ∷ es} {b = b} h x = record {
  utf8 = x.utf8;
  shorter = x.shorter;
  deep = omega arith;
  ends = x.ends;
  reads = λ limit fits h h'. expression_reads i (holds i (edge_last (all (e ∷ f ∷ es))) 1 b) limit (x.reads limit (omega arith)) h h';
}

-- before a sign that ends it
pub expression_before : {i : Bool} {e : Term} {a b : Text} → IsReadExpression i e a b → (limit : ℕ) → depth e ≤ limit → is_end (lexeme b) ≡ true → sees (codes ",") b ≡ false → expression (read limit) i a ≡ Some (e, b)
expression_before {i} {e} {b = b} x limit fits h h' = x.reads limit fits (end_holds i (edge e) 1 b h) h'

-- ---- what is found in a literal or between parentheses

-- one item, as it is found
pub record FoundItem (at : ℕ → Text → Reading Found) (hole : Bool) (e : Term) (a b : Text) : Type 0 where
  pub found : Found
  pub tree_is : found.tree ≡ e
  pub cover_is : found.cover ≡ false
  pub utf8 : IsUtf8 b
  pub reads : (limit : ℕ) → depth e ≤ limit → ReadsItem hole false (at limit) found a b

pub record FoundList (at : ℕ → Text → Reading Found) (hole : Bool) (es : List Term) (a b : Text) : Type 0 where
  pub found : List Found
  pub trees_are : trees found ≡ es
  pub covers_are : any_cover found ≡ false
  pub utf8 : IsUtf8 b
  pub reads : (limit : ℕ) → depths (all es) ≤ limit → ReadsAll hole false (at limit) found a b

unfoldable pub last_found : {at : ℕ → Text → Reading Found} {hole : Bool} {e : Term} {a b : Text} → FoundItem at hole e a b → FoundList at hole (e ∷ []) a b
last_found x = record {
  found = x.found ∷ [];
  trees_are = let t = x.tree_is in rw t;
  covers_are = let c = x.cover_is in rw c refl;
  utf8 = x.utf8;
  reads = λ limit fits. last_all (x.reads limit (omega arith));
}

unfoldable pub and_found : {at : ℕ → Text → Reading Found} {hole' hole : Bool} {e : Term} {es : List Term} {a b c d : Text} → FoundItem at hole' e a b → Seen (sign (codes ",")) b c → FoundList at hole es c d → FoundList at hole (e ∷ es) a d
and_found x tok rest = record {
  found = x.found ∷ rest.found;
  trees_are = let t = x.tree_is in let ts = rest.trees_are in rw (t, ts);
  covers_are = let c = x.cover_is in let cs = rest.covers_are in rw (c, cs) refl;
  utf8 = rest.utf8;
  reads = λ limit fits. and_all (x.reads limit (omega arith)) tok (rest.reads limit (omega arith));
}

pub record FoundGroup (at : ℕ → Text → Reading Found) (es : List Term) (a b : Text) : Type 0 where
  pub found : List Found
  pub comma : Bool
  pub trees_are : trees found ≡ es
  pub covers_are : any_cover found ≡ false
  pub utf8 : IsUtf8 b
  pub reads : (limit : ℕ) → depths (all es) ≤ limit → ReadsGroup (at limit) found comma a b

pub none_found : {at : ℕ → Text → Reading Found} {a : Text} → IsUtf8 a → FoundGroup at [] a a
none_found u = record { found = []; comma = false; trees_are = refl; covers_are = refl; utf8 = u; reads = λ limit fits. group_none }

pub some_found : {at : ℕ → Text → Reading Found} {hole : Bool} {es : List Term} {a b : Text} → hole ≡ false → FoundList at hole es a b → FoundGroup at es a b
some_found h x = record { found = x.found; comma = false; trees_are = x.trees_are; covers_are = x.covers_are; utf8 = x.utf8; reads = λ limit fits. group_some h (x.reads limit fits) }

pub comma_found : {at : ℕ → Text → Reading Found} {hole : Bool} {es : List Term} {a b c : Text} → FoundList at hole es a b → Seen (sign (codes ",")) b c → FoundGroup at es a c
comma_found x tok = record { found = x.found; comma = true; trees_are = x.trees_are; covers_are = x.covers_are; utf8 = tok.utf8; reads = λ limit fits. group_comma (x.reads limit fits) tok }

-- ---- items that are expressions, and spreads

-- what stands between parentheses, as an argument or not yet
abbrev pub item_of : Bool → ℕ → Text → Reading Found
item_of true limit a = argument (read limit) a
item_of false limit a = item (read limit) a

abbrev pub element_of : ℕ → Text → Reading Found
element_of limit a = element (read limit) a

item_there : (w : Bool) (limit : ℕ) (f : Found) (a : Text) {b : Text} → f.cover ≡ false → item (read limit) a ≡ Some (f, b) → item_of w limit a ≡ Some (f, b)
unfolding argument
item_there true limit f a whole h = rw (h, whole)
item_there false limit f a whole h = h

pub expression_item : (limit : ℕ) (f : Found) (a : Text) {b : Text} → begins (lexeme a) ≡ true → read limit (goal.Expression 2 true) a ≡ Some (f, b) → item (read limit) a ≡ Some (f, b)
unfolding item
expression_item limit f a starts h = rw (no_sign_there (codes "...") a starts refl, h)

pub found_expression : {i : Bool} {d : ℕ} {f : Found} {a b : Text} → IsRead i d f a b → (limit : ℕ) → d ≤ limit → is_end (lexeme b) ≡ true → read limit (goal.Expression 2 i) a ≡ Some (f, b)
found_expression {i} {f = f} {b = b} r limit fits h = let y = r.high in place_found r limit 2 1 (omega arith) (omega arith) (omega arith) (inl (omega arith)) fits (end_holds i (edge f.tree) 1 b h)

stands_reads : (w : Bool) {n : ℕ} {e : Term} {p : Bool} {a b : Text} → IsRead true (depth e) (whole e n p) a b → begins (lexeme a) ≡ true → (limit : ℕ) → depth e ≤ limit → ReadsItem false false (item_of w limit) (whole e n p) a b
stands_reads w {n} {e} {p} {a} r starts limit fits = some_item false r.shorter (begins_no_closer a starts) (λ h. item_there w limit (whole e n p) a refl (expression_item limit (whole e n p) a starts (found_expression r limit fits h))) (λ h. absurd (false≢true h))

pub stands_item : (w : Bool) {n : ℕ} {e : Term} {a b : Text} → StandsRead true n e a b → begins (lexeme a) ≡ true → FoundItem (item_of w) false e a b
stands_item w {n} {e} x starts = record { found = whole e n x.barred; tree_is = refl; cover_is = refl; utf8 = x.utf8; reads = λ limit fits. stands_reads w x.read starts limit fits }

spread_there : (limit : ℕ) (f : Found) {a m b : Text} → Seen (sign (codes "...")) a m → read limit (goal.Expression 2 true) m ≡ Some (f, b) → item (read limit) a ≡ Some (spread_of f, b)
unfolding item spread
spread_there limit f tok h = rw (sees_by (codes "...") tok, tok.after_is, h)

pub spread_reads : {d : ℕ} {f : Found} {a m b : Text} → Seen (sign (codes "...")) a m → IsRead true d f m b → (limit : ℕ) → d ≤ limit → is_end (lexeme b) ≡ true → item (read limit) a ≡ Some (spread_of f, b)
spread_reads {f = f} tok r limit fits h = spread_there limit f tok (found_expression r limit fits h)

pub spread_closes : {a m : Text} → Seen (sign (codes "...")) a m → is_closing (lexeme a) ≡ false
spread_closes tok = ap is_closing tok.lexeme_is

pub spread_item : (w : Bool) {n : ℕ} {e : Term} {a m b : Text} → Seen (sign (codes "...")) a m → StandsRead true n e m b → FoundItem (item_of w) false (of_part Kind.SpreadElement e) a b
spread_item w {n} {e} {a} tok x = let r = x.read in record {
  found = whole (of_part Kind.SpreadElement e) 0 x.barred;
  tree_is = refl;
  cover_is = refl;
  utf8 = x.utf8;
  reads = λ limit fits. some_item false (let s1 = tok.shorter in let s2 = r.shorter in omega arith) (spread_closes tok) (λ h. item_there w limit (whole (of_part Kind.SpreadElement e) 0 x.barred) a refl (spread_reads tok r limit (omega arith) h)) (λ h. absurd (false≢true h));
}

pub element_there : (limit : ℕ) (a : Text) {f : Found} {b : Text} → sees (codes ",") a ≡ false → item (read limit) a ≡ Some (f, b) → element (read limit) a ≡ Some (f, b)
unfolding element
element_there limit a h h' = rw (h, h')

pub stands_element : {n : ℕ} {e : Term} {a b : Text} → StandsRead true n e a b → begins (lexeme a) ≡ true → FoundItem element_of false e a b
stands_element {n} {e} {a} x starts = let r = x.read in record {
  found = whole e n x.barred;
  tree_is = refl;
  cover_is = refl;
  utf8 = x.utf8;
  reads = λ limit fits. some_item false r.shorter (begins_no_closer a starts) (λ h. element_there limit a (no_sign_there (codes ",") a starts refl) (expression_item limit (whole e n x.barred) a starts (found_expression r limit fits h))) (λ h. absurd (false≢true h));
}

pub spread_element : {n : ℕ} {e : Term} {a m b : Text} → Seen (sign (codes "...")) a m → StandsRead true n e m b → FoundItem element_of false (of_part Kind.SpreadElement e) a b
spread_element {n} {e} {a} tok x = let r = x.read in record {
  found = whole (of_part Kind.SpreadElement e) 0 x.barred;
  tree_is = refl;
  cover_is = refl;
  utf8 = x.utf8;
  reads = λ limit fits. some_item false (let s1 = tok.shorter in let s2 = r.shorter in omega arith) (spread_closes tok) (λ h. element_there limit a (sees_by (codes ",") tok) (spread_reads tok r limit (omega arith) h)) (λ h. absurd (false≢true h));
}

hole_there : (limit : ℕ) (a : Text) → sees (codes ",") a ≡ true → element (read limit) a ≡ Some (closed absent 0, a)
unfolding element
hole_there limit a h = rw h

pub hole_reads : (limit : ℕ) (a : Text) → ReadsItem true false (element_of limit) (closed absent 0) a a
hole_reads limit a = hole_item (λ h. hole_there limit a h)

pub hole_element : {a : Text} → IsUtf8 a → FoundItem element_of true absent a a
hole_element {a} u = record { found = closed absent 0; tree_is = refl; cover_is = refl; utf8 = u; reads = λ limit fits. hole_reads limit a }

-- ---- the elements of an array, of which some may be holes

pub record ElementList (es : List Term) (a b : Text) : Type 0 where
  pub hole : Bool
  pub no_hole : last_absent es ≡ false → hole ≡ false
  pub skip : (e : Term) → last_absent (e ∷ es) ≡ last_absent es
  pub list : FoundList element_of hole es a b

pub last_element : {e : Term} {a b : Text} → FoundItem element_of false e a b → ElementList (e ∷ []) a b
last_element x = record { hole = false; no_hole = λ h. refl; skip = λ e. refl; list = last_found x }

pub last_hole : {a b : Text} → FoundItem element_of true absent a b → ElementList (absent ∷ []) a b
last_hole x = record { hole = true; no_hole = λ h. absurd (false≢true (sym h)); skip = λ e. refl; list = last_found x }

pub and_element : {hole : Bool} {e : Term} {es : List Term} {a b c d : Text} → FoundItem element_of hole e a b → Seen (sign (codes ",")) b c → ElementList es c d → ElementList (e ∷ es) a d
and_element {e = e} x tok rest = record { hole = rest.hole; no_hole = λ h. rest.no_hole (sym (rest.skip e) ∙ h); skip = λ e'. refl; list = and_found x tok rest.list }

pub elements_found : {es : List Term} {a b : Text} → last_absent es ≡ false → ElementList es a b → FoundGroup element_of es a b
elements_found h x = some_found (x.no_hole h) x.list

pub elements_comma : {es : List Term} {a b c : Text} → ElementList es a b → Seen (sign (codes ",")) b c → FoundGroup element_of es a c
elements_comma x tok = comma_found x.list tok
