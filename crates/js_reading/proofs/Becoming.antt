-- What is read as the items of a literal, and becomes the items of a target, of a pattern or of parameters.
use Rattle.std.proofs.Common.{◌≡◌, ◌≤◌, ℕ, Bool, true, false, List, [], ◌∷◌, Some, Option, refl, sym, ◌∙◌, arith, codes}
use Rattle.std.specs.Str.{IsUtf8}
use Rattle.std.proofs.lemmas.Bool.{false≢true}
use Rattle.js_term.specs.Term.{Text, Term, absent, Terms, none, more, all, depth, depths}
use Rattle.js_term.specs.declared.kind.Kind.{Kind}
use Rattle.js_syntax.specs.Parts.{is_node, is_present}
use Rattle.js_syntax.specs.Edges.{last_absent}
use Rattle.js_syntax.specs.Tokens.{sign}
use Rattle.js_reading.specs.Reading.{Found, Reading, trees, any_barred}
use Rattle.js_reading.specs.Targets.{Items, with_item, with_first}
use Rattle.js_reading.specs.Literals.{ends_with_spread, is_barred}
use Rattle.js_reading.proofs.TokensThere.{Seen}
use Rattle.js_reading.proofs.Lists.{ReadsItem, ReadsAll, last_all, and_all, ReadsGroup, group_none, group_some, group_comma}

-- how the items of a literal become those of a target
pub record Gathering : Type 0 where
  pub one : Term → Option Term
  pub many : Terms → Items
  pub none_is : many none ≡ Some ([], absent)
  pub more_is : (t : Term) (ts : Terms) → is_node Kind.SpreadElement t ≡ false → many (more t ts) ≡ with_item (one t) (many ts)

-- how those of a target become what is wanted: they themselves, patterns or parameters
pub record Turning : Type 0 where
  pub item : Term → Option Term
  pub items : List Term → Option (List Term)
  pub rest : Term → Option Term
  pub none_is : items [] ≡ Some []
  pub more_is : (u : Term) (us : List Term) → items (u ∷ us) ≡ with_first (item u) (items us)
  pub absent_is : rest absent ≡ Some absent

module _ (g : Gathering) (t : Turning) (at : ℕ → Text → Reading Found) where
  pub record ItemCover (hole : Bool) (p : Term) (a b : Text) : Type 0 where
    pub found : Found
    pub target : Term
    pub free : found.barred ≡ false
    pub solid : is_node Kind.SpreadElement found.tree ≡ false
    pub becomes : g.one found.tree ≡ Some target
    pub turns : t.item target ≡ Some p
    pub utf8 : IsUtf8 b
    pub reads : (limit : ℕ) → depth p ≤ limit → ReadsItem hole false (at limit) found a b

  -- a spread at the end
  pub record RestCover (r : Term) (a b : Text) : Type 0 where
    pub found : Found
    pub target : Term
    pub free : found.barred ≡ false
    pub present : is_present r ≡ true
    pub becomes : g.many (more found.tree none) ≡ Some ([], target)
    pub turns : t.rest target ≡ Some r
    pub utf8 : IsUtf8 b
    pub reads : (limit : ℕ) → depth r ≤ limit → ReadsItem false false (at limit) found a b

  -- one or more, of which the last may be a spread
  pub record ListCover (hole : Bool) (ps : List Term) (r : Term) (a b : Text) : Type 0 where
    pub found : List Found
    pub targets : List Term
    pub rest : Term
    pub free : any_barred found ≡ false
    pub solid : is_present r ≡ false → ends_with_spread found ≡ false
    pub skip : (f : Found) → ends_with_spread (f ∷ found) ≡ ends_with_spread found
    pub becomes : g.many (all (trees found)) ≡ Some (targets, rest)
    pub turns : t.items targets ≡ Some ps
    pub turns_rest : t.rest rest ≡ Some r
    pub utf8 : IsUtf8 b
    pub reads : (limit : ℕ) → depths (all ps) ≤ limit → depth r ≤ limit → ReadsAll hole false (at limit) found a b

  -- a list between signs
  pub record GroupCover (ps : List Term) (r : Term) (a b : Text) : Type 0 where
    pub found : List Found
    pub comma : Bool
    pub targets : List Term
    pub rest : Term
    pub free : is_barred found comma ≡ false
    pub becomes : g.many (all (trees found)) ≡ Some (targets, rest)
    pub turns : t.items targets ≡ Some ps
    pub turns_rest : t.rest rest ≡ Some r
    pub utf8 : IsUtf8 b
    pub reads : (limit : ℕ) → depths (all ps) ≤ limit → depth r ≤ limit → ReadsGroup (at limit) found comma a b

  -- a list before what may stand behind it
  pub record ListedCover (ps : List Term) (a b : Text) : Type 0 where
    pub hole : Bool
    pub no_hole : last_absent ps ≡ false → hole ≡ false
    pub skip : (e : Term) → last_absent (e ∷ ps) ≡ last_absent ps
    pub alone : ListCover hole ps absent a b
    pub before : (r : Term) (c d : Text) → Seen (sign (codes ",")) b c → RestCover r c d → ListCover false ps r a d

one_turns : (t : Turning) (u p : Term) → t.item u ≡ Some p → t.items (u ∷ []) ≡ Some (p ∷ [])
one_turns t u p h = t.more_is u [] ∙ rw (h, t.none_is)

more_turn : (t : Turning) (u p : Term) (us ps : List Term) → t.item u ≡ Some p → t.items us ≡ Some ps → t.items (u ∷ us) ≡ Some (p ∷ ps)
more_turn t u p us ps h h' = t.more_is u us ∙ rw (h, h')

one_becomes : (g : Gathering) (e u : Term) → is_node Kind.SpreadElement e ≡ false → g.one e ≡ Some u → g.many (more e none) ≡ Some (u ∷ [], absent)
one_becomes g e u h h' = g.more_is e none h ∙ rw (h', g.none_is)

more_become : (g : Gathering) (e u : Term) (es : Terms) (us : List Term) (r : Term) → is_node Kind.SpreadElement e ≡ false → g.one e ≡ Some u → g.many es ≡ Some (us, r) → g.many (more e es) ≡ Some (u ∷ us, r)
more_become g e u es us r h h' h'' = g.more_is e es h ∙ rw (h', h'')

unbarred : (fs : List Found) → any_barred fs ≡ false → is_barred fs false ≡ false
unbarred fs h = rw h refl

comma_unbarred : (fs : List Found) → any_barred fs ≡ false → ends_with_spread fs ≡ false → is_barred fs true ≡ false
comma_unbarred fs h h' = rw (h, h') refl

module _ {g : Gathering} {t : Turning} {at : ℕ → Text → Reading Found} where
  pub last_cover : {hole : Bool} {p : Term} {a b : Text} → ItemCover g t at hole p a b → ListCover g t at hole (p ∷ []) absent a b
  last_cover {p = p} x = record {
    found = x.found ∷ [];
    targets = x.target ∷ [];
    rest = absent;
    free = let h = x.free in rw h refl;
    solid = λ h. x.solid;
    skip = λ f. refl;
    becomes = let f = x.found in one_becomes g f.tree x.target x.solid x.becomes;
    turns = one_turns t x.target p x.turns;
    turns_rest = t.absent_is;
    utf8 = x.utf8;
    reads = λ limit fits fits'. last_all (x.reads limit (omega arith));
  }

  pub rest_cover : {r : Term} {a b : Text} → RestCover g t at r a b → ListCover g t at false [] r a b
  rest_cover x = record {
    found = x.found ∷ [];
    targets = [];
    rest = x.target;
    free = let h = x.free in rw h refl;
    solid = λ h. absurd (false≢true (sym h ∙ x.present));
    skip = λ f. refl;
    becomes = x.becomes;
    turns = t.none_is;
    turns_rest = x.turns;
    utf8 = x.utf8;
    reads = λ limit fits fits'. last_all (x.reads limit fits');
  }

  pub and_cover : {hole' hole : Bool} {p r : Term} {ps : List Term} {a b c d : Text} → ItemCover g t at hole' p a b → Seen (sign (codes ",")) b c → ListCover g t at hole ps r c d → ListCover g t at hole (p ∷ ps) r a d
  and_cover {p = p} {ps = ps} x tok l = record {
    found = x.found ∷ l.found;
    targets = x.target ∷ l.targets;
    rest = l.rest;
    free = let h = x.free in let h' = l.free in rw (h, h') refl;
    solid = λ h. l.skip x.found ∙ l.solid h;
    skip = λ f. refl;
    becomes = let f = x.found in more_become g f.tree x.target (all (trees l.found)) l.targets l.rest x.solid x.becomes l.becomes;
    turns = more_turn t x.target p l.targets ps x.turns l.turns;
    turns_rest = l.turns_rest;
    utf8 = l.utf8;
    reads = λ limit fits fits'. and_all (x.reads limit (omega arith)) tok (l.reads limit (omega arith) fits');
  }

  pub nothing_cover : {a : Text} → IsUtf8 a → GroupCover g t at [] absent a a
  nothing_cover u = record { found = []; comma = false; targets = []; rest = absent; free = refl; becomes = g.none_is; turns = t.none_is; turns_rest = t.absent_is; utf8 = u; reads = λ limit fits fits'. group_none }

  pub plain_cover : {hole : Bool} {ps : List Term} {r : Term} {a b : Text} → hole ≡ false → ListCover g t at hole ps r a b → GroupCover g t at ps r a b
  plain_cover h l = record { found = l.found; comma = false; targets = l.targets; rest = l.rest; free = unbarred l.found l.free; becomes = l.becomes; turns = l.turns; turns_rest = l.turns_rest; utf8 = l.utf8; reads = λ limit fits fits'. group_some h (l.reads limit fits fits') }

  pub comma_cover : {hole : Bool} {ps : List Term} {a b c : Text} → ListCover g t at hole ps absent a b → Seen (sign (codes ",")) b c → GroupCover g t at ps absent a c
  comma_cover l tok = record { found = l.found; comma = true; targets = l.targets; rest = l.rest; free = comma_unbarred l.found l.free (l.solid refl); becomes = l.becomes; turns = l.turns; turns_rest = l.turns_rest; utf8 = tok.utf8; reads = λ limit fits fits'. group_comma (l.reads limit fits fits') tok }

  pub last_listed : {p : Term} {a b : Text} → ItemCover g t at false p a b → ListedCover g t at (p ∷ []) a b
  last_listed x = record { hole = false; no_hole = λ h. refl; skip = λ e. refl; alone = last_cover x; before = λ r c d tok y. and_cover x tok (rest_cover y) }

  pub hole_listed : {a b : Text} → ItemCover g t at true absent a b → ListedCover g t at (absent ∷ []) a b
  hole_listed x = record { hole = true; no_hole = λ h. absurd (false≢true (sym h)); skip = λ e. refl; alone = last_cover x; before = λ r c d tok y. and_cover x tok (rest_cover y) }

  pub and_listed : {hole : Bool} {p : Term} {ps : List Term} {a b c d : Text} → ItemCover g t at hole p a b → Seen (sign (codes ",")) b c → ListedCover g t at ps c d → ListedCover g t at (p ∷ ps) a d
  and_listed x tok l = record { hole = l.hole; no_hole = λ h. l.no_hole (sym (l.skip _) ∙ h); skip = λ e. refl; alone = and_cover x tok l.alone; before = λ r c d tok' y. and_cover x tok (l.before r c d tok' y) }

  pub listed_utf8 : {ps : List Term} {a b : Text} → ListedCover g t at ps a b → IsUtf8 b
  listed_utf8 l = let x = l.alone in x.utf8

  pub listed_group : {ps : List Term} {a b : Text} → last_absent ps ≡ false → ListedCover g t at ps a b → GroupCover g t at ps absent a b
  listed_group h l = plain_cover (l.no_hole h) l.alone

  pub trailing_group : {ps : List Term} {a b c : Text} → ListedCover g t at ps a b → Seen (sign (codes ",")) b c → GroupCover g t at ps absent a c
  trailing_group l tok = comma_cover l.alone tok

  pub rest_group : {r : Term} {a b : Text} → RestCover g t at r a b → GroupCover g t at [] r a b
  rest_group x = plain_cover refl (rest_cover x)

  pub and_rest_group : {ps : List Term} {r : Term} {a b c d : Text} → ListedCover g t at ps a b → Seen (sign (codes ",")) b c → RestCover g t at r c d → GroupCover g t at ps r a d
  and_rest_group {r = r} {c = c} {d = d} l tok x = plain_cover refl (l.before r c d tok x)
