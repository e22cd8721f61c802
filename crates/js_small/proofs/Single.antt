-- A statement of a small module declares one name, or none.
use Rattle.std.proofs.Common.{◌≡◌, refl, sym, ap, ◌∙◌, List, [], ◌∷◌, ◌++◌, Bool, true, false, ◌&&◌, ◌||◌, map}
use mathlib.Core.Bool.{true≢false}
use Rattle.js_term.specs.Term.{Text, Term, absent, list, node, Terms, none, more, all}
use Rattle.js_term.specs.declared.kind.Kind.{Kind}
use Rattle.js_term.specs.declared.kind.Kind.TheVariants as Kind
use Rattle.js_term.specs.Scope.{role, declares, declared, declared_all, declared_first}
use Rattle.js_term.specs.Form.{Sort, Place, one, single, nowhere, stands_small, is_declaration, is_item, is_statement, is_distinct_inside, places}
use Rattle.small_tree.specs.TermOf.{statement_term}
use Rattle.small_tree.specs.declared.statement.Statement.{Statement}
use Rattle.js_small.specs.Small.{allowed, small_at, small_each, small_places}
use Rattle.js_small.specs.Names.{first_name, with_name, declared_names}

differ : {A : Type 0} → false ≡ true → A
differ e = absurd (true≢false (sym e))

pub and_left : (a b : Bool) → (a && b) ≡ true → a ≡ true
and_left true b h = refl
and_left false b h = h

pub and_right : (a b : Bool) → (a && b) ≡ true → b ≡ true
and_right true b h = h
and_right false b h = differ h

abbrev is_one : List Text → Bool
is_one [] = false
is_one (x ∷ []) = true
is_one (x ∷ y ∷ xs) = false

abbrev is_short : List Text → Bool
is_short [] = true
is_short (x ∷ []) = true
is_short (x ∷ y ∷ xs) = false

short_one : (xs : List Text) → is_one xs ≡ true → is_short xs ≡ true
short_one [] h = refl
short_one (x ∷ []) h = refl
short_one (x ∷ y ∷ xs) h = h

ends_empty : (xs : List Text) → is_short xs ≡ true → is_short (xs ++ []) ≡ true
ends_empty [] h = refl
ends_empty (x ∷ []) h = refl
ends_empty (x ∷ y ∷ xs) h = differ h

nothing_nowhere : (t : Term) → small_at nowhere t ≡ false
nothing_nowhere absent = refl
nothing_nowhere (list ts) = refl
nothing_nowhere (node k texts ts) = refl

kind_stands : (s : Sort) (k : Kind) (texts : List Text) (ts : Terms) → small_at (one s) (node k texts ts) ≡ true → stands_small s k ≡ true
kind_stands s k texts ts h = and_left (stands_small s k) (allowed k texts && (small_places (places k texts) ts && is_distinct_inside (role k) ts)) h

kids_stand : (s : Sort) (k : Kind) (texts : List Text) (ts : Terms) → small_at (one s) (node k texts ts) ≡ true → small_places (places k texts) ts ≡ true
kids_stand s k texts ts h =
    let inside = small_places (places k texts) ts && is_distinct_inside (role k) ts in
    and_left (small_places (places k texts) ts) (is_distinct_inside (role k) ts) (and_right (allowed k texts) inside (and_right (stands_small s k) (allowed k texts && inside) h))

binding_kind : (k : Kind) (texts : List Text) (ts : Terms) → stands_small Sort.binding k ≡ true → is_one (declares (role k) texts (declared_all ts) (declared_first ts)) ≡ true
binding_kind Kind.BindingIdentifier texts ts h = refl
binding_kind k texts ts h = differ h

binding_one : (t : Term) → small_at (one Sort.binding) t ≡ true → is_one (declared t) ≡ true
binding_one absent h = differ h
binding_one (list ts) h = differ h
binding_one (node k texts ts) h = binding_kind k texts ts (kind_stands Sort.binding k texts ts h)

first_one : (ps : List Place) (ts : Terms) → small_places (one Sort.binding ∷ ps) ts ≡ true → is_one (declared_first ts) ≡ true
first_one ps none h = differ h
first_one ps (more t ts) h = binding_one t (and_left (small_at (one Sort.binding) t) (small_places ps ts) h)

declarator_kind : (k : Kind) (texts : List Text) (ts : Terms) → stands_small Sort.declarator k ≡ true → small_places (places k texts) ts ≡ true → is_one (declares (role k) texts (declared_all ts) (declared_first ts)) ≡ true
declarator_kind Kind.VariableDeclarator texts ts h p = first_one (one Sort.expression ∷ []) ts p
declarator_kind k texts ts h p = differ h

declarator_one : (t : Term) → small_at (one Sort.declarator) t ≡ true → is_one (declared t) ≡ true
declarator_one absent h = differ h
declarator_one (list ts) h = differ h
declarator_one (node k texts ts) h = declarator_kind k texts ts (kind_stands Sort.declarator k texts ts h) (kids_stand Sort.declarator k texts ts h)

-- a list of just one declarator
list_short : (ts : Terms) → small_at (single Sort.declarator) (list ts) ≡ true → is_short (declared_all ts) ≡ true
list_short none h = differ h
list_short (more t none) h = ends_empty (declared t) (short_one (declared t) (declarator_one t (and_left (small_at (one Sort.declarator) t) true h)))
list_short (more t (more u ts)) h = differ h

part_short : (t : Term) → small_at (single Sort.declarator) t ≡ true → is_short (declared t) ≡ true
part_short absent h = differ h
part_short (list ts) h = list_short ts h
part_short (node k texts ts) h = differ h

-- the kids of a node that has one kid
only_kid : (p : Place) (ts : Terms) → ((t : Term) → small_at p t ≡ true → is_short (declared t) ≡ true) → small_places (p ∷ []) ts ≡ true → is_short (declared_all ts) ≡ true
only_kid p none short h = differ h
only_kid p (more t none) short h = ends_empty (declared t) (short t (and_left (small_at p t) true h))
only_kid p (more t (more u ts)) short h =
    let late = and_right (small_at p t) (small_at nowhere u && small_places [] ts) h in
    differ (sym (nothing_nowhere u) ∙ and_left (small_at nowhere u) (small_places [] ts) late)

declaration_kind : (k : Kind) (texts : List Text) (ts : Terms) → is_declaration k ≡ true → small_places (places k texts) ts ≡ true → is_short (declares (role k) texts (declared_all ts) (declared_first ts)) ≡ true
declaration_kind Kind.VariableDeclaration texts ts h p = only_kid (single Sort.declarator) ts part_short p
declaration_kind Kind.FunctionDeclaration texts ts h p = short_one (declared_first ts) (first_one (one Sort.parameters ∷ one Sort.function_body ∷ []) ts p)
declaration_kind k texts ts h p = differ h

declaration_short : (t : Term) → small_at (one Sort.declaration) t ≡ true → is_short (declared t) ≡ true
declaration_short absent h = differ h
declaration_short (list ts) h = differ h
declaration_short (node k texts ts) h = declaration_kind k texts ts (kind_stands Sort.declaration k texts ts h) (kids_stand Sort.declaration k texts ts h)

statement_kind : (k : Kind) (texts : List Text) (ts : Terms) → (is_item k || is_statement k) ≡ true → small_places (places k texts) ts ≡ true → is_short (declares (role k) texts (declared_all ts) (declared_first ts)) ≡ true
statement_kind Kind.ImportDeclaration texts ts h p = refl
statement_kind Kind.ExportDeclaration texts ts h p = only_kid (one Sort.declaration) ts declaration_short p
statement_kind Kind.ExpressionStatement texts ts h p = refl
statement_kind Kind.ReturnStatement texts ts h p = refl
statement_kind Kind.VariableDeclaration texts ts h p = declaration_kind Kind.VariableDeclaration texts ts refl p
statement_kind Kind.FunctionDeclaration texts ts h p = declaration_kind Kind.FunctionDeclaration texts ts refl p
statement_kind k texts ts h p = differ h

or_left : (a b : Bool) → a ≡ true → (a || b) ≡ true
or_left a b h = rw h refl

or_right : (a b : Bool) → b ≡ true → (a || b) ≡ true
or_right true b h = refl
or_right false b h = h

pub item_short : (t : Term) → small_at (one Sort.item) t ≡ true → is_short (declared t) ≡ true
item_short absent h = differ h
item_short (list ts) h = differ h
item_short (node k texts ts) h = statement_kind k texts ts (or_left (is_item k) (is_statement k) (kind_stands Sort.item k texts ts h)) (kids_stand Sort.item k texts ts h)

pub statement_short : (t : Term) → small_at (one Sort.statement) t ≡ true → is_short (declared t) ≡ true
statement_short absent h = differ h
statement_short (list ts) h = differ h
statement_short (node k texts ts) h = statement_kind k texts ts (or_right (is_item k) (is_statement k) (kind_stands Sort.statement k texts ts h)) (kids_stand Sort.statement k texts ts h)

named : (xs ys : List Text) → is_short xs ≡ true → with_name (first_name xs) ys ≡ xs ++ ys
named [] ys h = refl
named (x ∷ []) ys h = refl
named (x ∷ y ∷ xs) ys h = differ h

-- the names that the walk goes over are the names that are declared
pub all_named : (p : Place) → ((t : Term) → small_at p t ≡ true → is_short (declared t) ≡ true) → (ss : List Statement) → small_each p (all (map statement_term ss)) ≡ true → declared_names ss ≡ declared_all (all (map statement_term ss))
all_named p short [] h = refl
all_named p short (s ∷ ss) h =
    let front = and_left (small_at p (statement_term s)) (small_each p (all (map statement_term ss))) h in
    let behind = and_right (small_at p (statement_term s)) (small_each p (all (map statement_term ss))) h in
    named (declared (statement_term s)) (declared_names ss) (short (statement_term s) front) ∙ ap (λ xs. declared (statement_term s) ++ xs) (all_named p short ss behind)
