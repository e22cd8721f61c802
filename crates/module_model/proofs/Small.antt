-- What the tables of small modules say of a module's statements.
use Rattle.std.proofs.Common.{◌≡◌, refl, sym, subst, List, [], ◌∷◌, Bool, true, false, not, ◌&&◌, ◌||◌}
use Rattle.std.specs.List.{list_all}
use Rattle.std.proofs.lemmas.Bool.{and_parts, and_from, not-true}
use Rattle.js_term.specs.Term.{Text, Term, absent, list, node, Terms, none, more, append, items, first}
use Rattle.js_term.specs.declared.kind.Kind.{Kind}
use Rattle.js_term.specs.declared.kind.Kind.TheVariants as Kind
use Rattle.js_term.specs.Scope.{Role, role, kid}
use Rattle.js_term.specs.Form.{Sort, Place, one, many, some, single, several, empty, takes_list, item_place, first_place, later_places, takes_kind, fits, fits_each, fits_places, stands_small, allows, places, property_places, no_texts, is_small_name, is_small_binding, has_small_form, items_of, is_item, is_declaration}
use Rattle.js_term.specs.Kinds.{is_kind}
use Rattle.module_model.specs.Meaning.{hashbang_of, directives_of, keeps, kept, all_kept, hands_out, handed_out, all_handed_out}
use Rattle.module_model.proofs.EveryKind.{differ, kinds, when, the_kind}
use Rattle.module_model.proofs.Names.{bound_is_small, Names, no_names, names_append}
use Rattle.module_model.proofs.Declared.{is_inside, are_inside, is_inside_here, names_declared_all}
use Rattle.module_model.proofs.Fits.{first_passes, widened, each_append, first_fits, only_fits}

abbrev pub small_texts : Kind → List Text → Bool
small_texts = allows is_small_name is_small_binding

abbrev pub small_at : Place → Term → Bool
small_at = fits stands_small small_texts places

abbrev pub small_each : Place → Terms → Bool
small_each = fits_each stands_small small_texts places

abbrev pub small_all : List Place → Terms → Bool
small_all = fits_places stands_small small_texts places

abbrev pub small_kind : Place → Kind → Bool
small_kind = takes_kind stands_small small_texts places

-- the parts of a small node
pub record SmallNode (p : Place) (k : Kind) (texts : List Text) (ts : Terms) : Type 0 where
  pub stands : small_kind p k ≡ true
  pub named : small_texts k texts ≡ true
  pub parts : small_all (places k texts) ts ≡ true

pub small_node : (p : Place) (k : Kind) (texts : List Text) (ts : Terms) → small_at p (node k texts ts) ≡ true → SmallNode p k texts ts
small_node p k texts ts h =
    let a = and_parts (small_kind p k) (small_texts k texts && small_all (places k texts) ts) h in
    let b = and_parts (small_texts k texts) (small_all (places k texts) ts) a.1 in
    record { stands = a.0; named = b.0; parts = b.1 }

-- what stands at the root of a module alone
abbrev is_root_form : Role → Bool
is_root_form Role.imports = true
is_root_form Role.exports_declaration = true
is_root_form r = false

abbrev is_inner_sort : Sort → Bool
is_inner_sort Sort.program = false
is_inner_sort Sort.item = false
is_inner_sort s = true

abbrev is_inner : Place → Bool
is_inner (one s) = is_inner_sort s
is_inner (many s) = is_inner_sort s
is_inner (some s) = is_inner_sort s
is_inner (single s) = is_inner_sort s
is_inner (several s) = is_inner_sort s
is_inner p = true

abbrev are_inner : List Place → Bool
are_inner = list_all is_inner

abbrev is_no_program : Kind → Bool
is_no_program k = not (is_kind k Kind.Program)

abbrev is_inner_kind : Kind → Bool
is_inner_kind k = is_no_program k && not (is_root_form (role k))

inner_rows : (s : Sort) → list_all (λ k. not (is_inner_sort s && stands_small s k) || is_inner_kind k) kinds ≡ true
inner_rows Sort.program = refl
inner_rows s = refl

inner_stands : (p : Place) (k : Kind) → is_inner p ≡ true → small_kind p k ≡ true → is_inner_kind k ≡ true
inner_stands (one s) k i h = when (λ m. is_inner_sort s && stands_small s m) is_inner_kind (inner_rows s) k (and_from (is_inner_sort s) (stands_small s k) i h)
inner_stands p k i h = differ (sym h)

item_place_inner : (p : Place) → is_inner p ≡ true → is_inner (item_place p) ≡ true
item_place_inner (many s) i = i
item_place_inner (some s) i = i
item_place_inner (single s) i = i
item_place_inner (several s) i = i
item_place_inner p i = refl

first_place_inner : (ps : List Place) → are_inner ps ≡ true → is_inner (first_place ps) ≡ true
first_place_inner [] i = refl
first_place_inner (p ∷ ps) i = (and_parts (is_inner p) (are_inner ps) i).0

later_places_inner : (ps : List Place) → are_inner ps ≡ true → are_inner (later_places ps) ≡ true
later_places_inner [] i = refl
later_places_inner (p ∷ ps) i = (and_parts (is_inner p) (are_inner ps) i).1

property_inner : (texts : List Text) → are_inner (property_places texts) ≡ true
property_inner (kind ∷ [] ∷ texts) = refl
property_inner texts = refl

places_inner : (k : Kind) (texts : List Text) → is_no_program k ≡ true → are_inner (places k texts) ≡ true
places_inner Kind.Program texts h = differ (sym h)
places_inner Kind.ObjectProperty texts h = property_inner texts
places_inner k texts h = refl

here_inside : (k : Kind) (texts : List Text) → small_texts k texts ≡ true → is_root_form (role k) ≡ false → is_inside_here (role k) texts ≡ true
here_inside Kind.Identifier texts h r = first_passes is_small_name texts h
here_inside Kind.BindingIdentifier texts h r = bound_is_small (first texts) (first_passes is_small_binding texts h)
here_inside Kind.ImportDeclaration texts h r = differ r
here_inside Kind.ExportDeclaration texts h r = differ r
here_inside k texts h r = refl

-- below the root all names are small, and no form is the root's
mutual
  pub small_inside : (p : Place) (t : Term) → is_inner p ≡ true → small_at p t ≡ true → is_inside t ≡ true
  small_inside p absent i h = refl
  small_inside p (list ts) i h = each_inside (item_place p) ts (item_place_inner p i) (and_parts (takes_list p ts) (small_each (item_place p) ts) h).1
  small_inside p (node k texts ts) i h =
      let n = small_node p k texts ts h in
      let a = and_parts (is_no_program k) (not (is_root_form (role k))) (inner_stands p k i n.stands) in
      and_from (is_inside_here (role k) texts) (are_inside ts) (here_inside k texts n.named (not-true (is_root_form (role k)) a.1)) (all_inside (places k texts) ts (places_inner k texts a.0) n.parts)

  pub each_inside : (p : Place) (ts : Terms) → is_inner p ≡ true → small_each p ts ≡ true → are_inside ts ≡ true
  each_inside p none i h = refl
  each_inside p (more t ts) i h =
      let a = and_parts (small_at p t) (small_each p ts) h in
      and_from (is_inside t) (are_inside ts) (small_inside p t i a.0) (each_inside p ts i a.1)

  pub all_inside : (ps : List Place) (ts : Terms) → are_inner ps ≡ true → small_all ps ts ≡ true → are_inside ts ≡ true
  all_inside ps none i h = refl
  all_inside ps (more t ts) i h =
      let a = and_parts (small_at (first_place ps) t) (small_all (later_places ps) ts) h in
      and_from (is_inside t) (are_inside ts) (small_inside (first_place ps) t (first_place_inner ps i) a.0) (all_inside (later_places ps) ts (later_places_inner ps i) a.1)

-- a module is made of statements, and has no hashbang and no directives
pub record SmallModule (t : Term) : Type 0 where
  pub no_hashbang : no_texts (hashbang_of t) ≡ true
  pub no_directives : directives_of t ≡ none
  pub small_items : small_each (one Sort.item) (items_of t) ≡ true

empty_items : (t : Term) → small_at empty t ≡ true → items t ≡ none
empty_items absent h = refl
empty_items (list none) h = refl
empty_items (list (more t ts)) h = differ (sym h)
empty_items (node k texts ts) h = refl

many_items : (s : Sort) (t : Term) → small_at (many s) t ≡ true → small_each (one s) (items t) ≡ true
many_items s absent h = refl
many_items s (list ts) h = h
many_items s (node k texts ts) h = refl

second_fits : (p q : Place) (ts : Terms) → small_all (p ∷ q ∷ []) ts ≡ true → small_at q (kid 1 ts) ≡ true
second_fits p q none h = differ (sym h)
second_fits p q (more t ts) h = first_fits stands_small small_texts places q [] ts (and_parts (small_at p t) (small_all (q ∷ []) ts) h).1

pub small_module : (t : Term) → has_small_form t ≡ true → SmallModule t
small_module absent h = differ (sym h)
small_module (list ts) h = differ (sym h)
small_module (node k texts ts) h =
    let n = small_node (one Sort.program) k texts ts h in
    let e : k ≡ Kind.Program = the_kind (stands_small Sort.program) Kind.Program refl k n.stands in
    let named : no_texts texts ≡ true = subst (λ m. small_texts m texts ≡ true) e n.named in
    let parts : small_all (empty ∷ many Sort.item ∷ []) ts ≡ true = subst (λ m. small_all (places m texts) ts ≡ true) e n.parts in
    record {
      no_hashbang = named;
      no_directives = empty_items (kid 0 ts) (first_fits stands_small small_texts places empty (many Sort.item ∷ []) ts parts);
      small_items = many_items Sort.item (kid 1 ts) (second_fits empty (many Sort.item) ts parts);
    }

-- what stays of a statement
abbrev pub is_item_node : Kind → List Text → Terms → Type 0
is_item_node = SmallNode (one Sort.item)

abbrev pub exports_it : Role → Bool
exports_it Role.exports_declaration = true
exports_it r = false

pub export_kind : (k : Kind) → role k ≡ Role.exports_declaration → k ≡ Kind.ExportDeclaration
export_kind k e = the_kind (λ m. exports_it (role m)) Kind.ExportDeclaration refl k (rw e refl)

item_below : (k : Kind) → is_item k ≡ true → is_no_program k ≡ true
item_below = when is_item is_no_program refl

item_kids : (k : Kind) (texts : List Text) (ts : Terms) → is_item_node k texts ts → are_inside ts ≡ true
item_kids k texts ts n = all_inside (places k texts) ts (places_inner k texts (item_below k n.stands)) n.parts

alone_inside : (k : Kind) (texts : List Text) (ts : Terms) → is_item_node k texts ts → is_root_form (role k) ≡ false → are_inside (more (node k texts ts) none) ≡ true
alone_inside k texts ts n f =
    and_from (is_inside (node k texts ts)) true (and_from (is_inside_here (role k) texts) (are_inside ts) (here_inside k texts n.named f) (item_kids k texts ts n)) refl

keeps_inside : (k : Kind) (texts : List Text) (ts : Terms) → is_item_node k texts ts → (r : Role) → role k ≡ r → are_inside (keeps r (node k texts ts)) ≡ true
keeps_inside k texts ts n Role.imports e = refl
keeps_inside k texts ts n Role.exports_declaration e = item_kids k texts ts n
keeps_inside k texts ts n r e = alone_inside k texts ts n (rw e refl)

kept_inside : (t : Term) → small_at (one Sort.item) t ≡ true → are_inside (kept t) ≡ true
kept_inside absent h = differ (sym h)
kept_inside (list ts) h = differ (sym h)
kept_inside (node k texts ts) h = keeps_inside k texts ts (small_node (one Sort.item) k texts ts h) (role k) refl

inside_append : (ts us : Terms) → are_inside ts ≡ true → are_inside us ≡ true → are_inside (append ts us) ≡ true
inside_append none us p q = q
inside_append (more t ts) us p q =
    let a = and_parts (is_inside t) (are_inside ts) p in
    and_from (is_inside t) (are_inside (append ts us)) a.0 (inside_append ts us a.1 q)

pub all_kept_inside : (ts : Terms) → small_each (one Sort.item) ts ≡ true → are_inside (all_kept ts) ≡ true
all_kept_inside none h = refl
all_kept_inside (more t ts) h =
    let a = and_parts (small_at (one Sort.item) t) (small_each (one Sort.item) ts) h in
    inside_append (kept t) (all_kept ts) (kept_inside t a.0) (all_kept_inside ts a.1)

declaration_item : (k : Kind) → is_declaration k ≡ true → is_item k ≡ true
declaration_item = when is_declaration is_item refl

exported_items : (ts : Terms) → small_all (one Sort.declaration ∷ []) ts ≡ true → small_each (one Sort.item) ts ≡ true
exported_items ts h = each_items ts (only_fits stands_small small_texts places Sort.declaration ts h)
  where
    each_items : (ts : Terms) → small_each (one Sort.declaration) ts ≡ true → small_each (one Sort.item) ts ≡ true
    each_items none h = refl
    each_items (more t ts) h =
        let a = and_parts (small_at (one Sort.declaration) t) (small_each (one Sort.declaration) ts) h in
        and_from (small_at (one Sort.item) t) (small_each (one Sort.item) ts) (widened stands_small small_texts places Sort.declaration Sort.item declaration_item t a.0) (each_items ts a.1)

keeps_small : (k : Kind) (texts : List Text) (ts : Terms) → small_at (one Sort.item) (node k texts ts) ≡ true → (r : Role) → role k ≡ r → small_each (one Sort.item) (keeps r (node k texts ts)) ≡ true
keeps_small k texts ts h Role.imports e = refl
keeps_small k texts ts h Role.exports_declaration e =
    exported_items ts (subst (λ m. small_all (places m texts) ts ≡ true) (export_kind k e) (small_node (one Sort.item) k texts ts h).parts)
keeps_small k texts ts h r e = and_from (small_at (one Sort.item) (node k texts ts)) true h refl

kept_small : (t : Term) → small_at (one Sort.item) t ≡ true → small_each (one Sort.item) (kept t) ≡ true
kept_small absent h = differ (sym h)
kept_small (list ts) h = differ (sym h)
kept_small (node k texts ts) h = keeps_small k texts ts h (role k) refl

pub all_kept_small : (ts : Terms) → small_each (one Sort.item) ts ≡ true → small_each (one Sort.item) (all_kept ts) ≡ true
all_kept_small none h = refl
all_kept_small (more t ts) h =
    let a = and_parts (small_at (one Sort.item) t) (small_each (one Sort.item) ts) h in
    each_append stands_small small_texts places (one Sort.item) (kept t) (all_kept ts) (kept_small t a.0) (all_kept_small ts a.1)

-- the names handed out are declared
hands_names : (k : Kind) (texts : List Text) (ts : Terms) → is_item_node k texts ts → (r : Role) → Names (hands_out r ts)
hands_names k texts ts n Role.exports_declaration = names_declared_all ts (item_kids k texts ts n)
hands_names k texts ts n r = no_names

handed_names : (t : Term) → small_at (one Sort.item) t ≡ true → Names (handed_out t)
handed_names absent h = no_names
handed_names (list ts) h = no_names
handed_names (node k texts ts) h = hands_names k texts ts (small_node (one Sort.item) k texts ts h) (role k)

pub all_handed_names : (ts : Terms) → small_each (one Sort.item) ts ≡ true → Names (all_handed_out ts)
all_handed_names none h = no_names
all_handed_names (more t ts) h =
    let a = and_parts (small_at (one Sort.item) t) (small_each (one Sort.item) ts) h in
    names_append (handed_out t) (all_handed_out ts) (handed_names t a.0) (all_handed_names ts a.1)
