-- Specifiers of imports and exports, and import clauses (ECMAScript 16.2.2, 16.2.3).
use Rattle.std.proofs.Common.{◌≡◌, refl, sym, subst, List, [], ◌∷◌, ◌++◌, Bool, true, false, not, ◌&&◌, inl, inr, ◌⊎◌}
use Rattle.std.specs.Prelude.{codes}
use Rattle.std.proofs.lemmas.Bool.{and_parts}
use Rattle.js_term.specs.Term.{Text, Term, absent, list, node, Terms, none, more}
use Rattle.js_term.specs.declared.kind.Kind.{Kind}
use Rattle.js_term.specs.Lexeme.{is_reserved}
use Rattle.js_term.specs.Node.{identifier_of, binding_of, name_of, string_of}
use Rattle.js_syntax.specs.Lexical.{is_name}
use Rattle.js_syntax.specs.Texts.{tests, is_free_name, anything}
use Rattle.js_syntax.specs.Parts.{is_node, each}
use Rattle.js_syntax.specs.Nodes.{of_part, of_parts, export_specifier_of}
use Rattle.js_syntax.specs.Sorts.{Sort, Place, takes}
use Rattle.js_syntax.specs.Places.{places_at}
use Rattle.js_syntax.specs.Printable.{has_shape, are_plain_specifiers, is_import_clause}
use Rattle.js_syntax.specs.Modules.{ExportName, name_exported, string_exported, Side, imported, local, indirect, Specifier, import_renamed, import_same, export_renamed, export_same, string_renamed, string_same, indirect_renamed, indirect_same, Specifiers, no_specifiers, last_specifier, and_specifier, Braced, braced}
use Rattle.print_layout.specs.Rows.{say, part, when, comma, quoted, are_one}
use Rattle.print_layout.specs.Needs.{never}
use Rattle.print_layout.specs.Layout.{wrapped, each_wrapped}
use Rattle.print_spelling.proofs.Tokens.{differ, same_text, Lead, flush, spaced, led, stops, word_at, name_at, string_at, left_brace, right_brace, comma_at}
use Rattle.print_spelling.proofs.Spread.{To, to, each_to, items_to, separated_to, spread_to}
use Rattle.print_spelling.proofs.Fits.{Fit, fit_of, taken_by, each_shaped, is_program, are_words, are_many, Placed}
use Rattle.print_spelling.proofs.Shapes.{kind_is, only, leaf, leaf_at}
use Rattle.print_spelling.proofs.Leaves.{free_parts}

-- ---- names that are exported: a name or a string

name_or_string : (s : Sort) (j : Kind) (test : Text → Bool) → is_program j ≡ false → tests j ≡ test ∷ [] → ((texts : List Text) → places_at s j texts ≡ []) → ((texts : List Text) → places_at s Kind.StringLiteral texts ≡ []) → ((k : Kind) → takes s k ≡ true → (k ≡ j) ⊎ (k ≡ Kind.StringLiteral)) → (P : Term → Type 0) → ((x : Text) → test x ≡ true → P (node j (x ∷ []) none)) → ((v : Text) → P (string_of v)) → (t : Term) → has_shape (Place.one s) t ≡ true → P t
name_or_string s j test n e p q which P f g absent h = differ (sym h)
name_or_string s j test n e p q which P f g (list ts) h = differ (sym h)
name_or_string s j test n e p q which P f g (node k xs ts) h = elim (which k (taken_by s k xs ts h).taken) as (λ z. P (node k xs ts)) [
  | inl same ↦ subst (λ i. has_shape (Place.one s) (node i xs ts) ≡ true → P (node i xs ts)) (sym same) (leaf_at s j test n e p P f xs ts) h
  | inr same ↦ subst (λ i. has_shape (Place.one s) (node i xs ts) ≡ true → P (node i xs ts)) (sym same) (leaf_at s Kind.StringLiteral anything refl refl q P (λ v a. g v) xs ts) h
]

exported_kind : (k : Kind) → takes Sort.module_export_name k ≡ true → (k ≡ Kind.IdentifierName) ⊎ (k ≡ Kind.StringLiteral)
exported_kind Kind.IdentifierName h = inl refl
exported_kind Kind.StringLiteral h = inr refl
exported_kind k h = differ (sym h)

local_kind : (k : Kind) → takes Sort.local_export_name k ≡ true → (k ≡ Kind.Identifier) ⊎ (k ≡ Kind.StringLiteral)
local_kind Kind.Identifier h = inl refl
local_kind Kind.StringLiteral h = inr refl
local_kind k h = differ (sym h)

exported_name : (P : Term → Type 0) → ((x : Text) → is_name x ≡ true → P (name_of x)) → ((v : Text) → P (string_of v)) → (t : Term) → has_shape (Place.one Sort.module_export_name) t ≡ true → P t
exported_name P f g t h = name_or_string Sort.module_export_name Kind.IdentifierName is_name refl refl (λ texts. refl) (λ texts. refl) exported_kind P f g t h

local_name : (P : Term → Type 0) → ((x : Text) → is_free_name x ≡ true → P (identifier_of x)) → ((v : Text) → P (string_of v)) → (t : Term) → has_shape (Place.one Sort.local_export_name) t ≡ true → P t
local_name P f g t h = name_or_string Sort.local_export_name Kind.Identifier is_free_name refl refl (λ texts. refl) (λ texts. refl) local_kind P f g t h

abbrev ExportNameAt : Term → Type 0
ExportNameAt t = (g : Lead) (rest : Text) → stops rest ≡ true → ExportName (wrapped true never t) (led g (to true never t rest)) rest

pub export_name_at : (t : Term) → has_shape (Place.one Sort.module_export_name) t ≡ true → ExportNameAt t
export_name_at t h = exported_name ExportNameAt (λ x n g rest s. name_exported (name_at g n s)) (λ v g rest s. string_exported (string_at g)) t h

-- ---- m as x, or one name

abbrev SpecifierAt : Side → Term → Type 0
SpecifierAt s t = (g : Lead) (rest : Text) → stops rest ≡ true → Specifier s (wrapped true never t) (led g (to true never t rest)) rest

abbrev RenamedAt : Side → Kind → Term → Term → Type 0
RenamedAt s k a b = (g : Lead) (rest : Text) → stops rest ≡ true → Specifier s (of_parts k (wrapped true never a) (wrapped true never b)) (led g (to true never a (codes " as " ++ to true never b rest))) rest

abbrev SameAt : Side → Kind → Term → Term → Type 0
SameAt s k a b = are_one a b ≡ true → (g : Lead) (rest : Text) → stops rest ≡ true → Specifier s (of_parts k (wrapped true never a) (wrapped true never b)) (led g (to true never a rest)) rest

by_names : (s : Side) (k : Kind) (a b : Term) → RenamedAt s k a b → SameAt s k a b → (c : Bool) → are_one a b ≡ c → (g : Lead) (rest : Text) → stops rest ≡ true → Specifier s (of_parts k (wrapped true never a) (wrapped true never b)) (led g (spread_to (part 0 ∷ when (not c) (say (codes " as ") ∷ part 1 ∷ [])) (record { whole = to true never a; items = items_to true never a } ∷ record { whole = to true never b; items = items_to true never b } ∷ []) rest)) rest
by_names s k a b r e true z = e z
by_names s k a b r e false z = r

import_renamed_at : (a b : Term) → has_shape (Place.one Sort.module_export_name) a ≡ true → has_shape (Place.one (Sort.only Kind.BindingIdentifier)) b ≡ true → RenamedAt imported Kind.ImportSpecifier a b
import_renamed_at a b ha hb = leaf Kind.BindingIdentifier is_free_name refl refl (λ texts. refl) (λ z. RenamedAt imported Kind.ImportSpecifier a z) (λ x h g rest s. let n = free_parts x h in import_renamed n.1 (export_name_at a ha g _ refl) (word_at spaced (codes "as") refl refl refl) (name_at spaced n.0 s)) b hb

import_same_at : (a b : Term) → has_shape (Place.one Sort.module_export_name) a ≡ true → has_shape (Place.one (Sort.only Kind.BindingIdentifier)) b ≡ true → SameAt imported Kind.ImportSpecifier a b
import_same_at a b ha hb =
    exported_name (λ z. SameAt imported Kind.ImportSpecifier z b)
    (λ y k. leaf Kind.BindingIdentifier is_free_name refl refl (λ texts. refl) (λ z. SameAt imported Kind.ImportSpecifier (name_of y) z) (λ x h e g rest s. let n = free_parts x h in subst (λ z. Specifier imported (of_parts Kind.ImportSpecifier (name_of z) (binding_of x)) (led g (z ++ rest)) rest) (sym (same_text y x e)) (import_same n.1 (name_at g n.0 s))) b hb)
    (λ v. leaf Kind.BindingIdentifier is_free_name refl refl (λ texts. refl) (λ z. SameAt imported Kind.ImportSpecifier (string_of v) z) (λ x h e. differ (sym e)) b hb) a ha

import_specifier : (xs : List Text) (us : Terms) → Fit (Place.one Sort.module_export_name ∷ Place.one (Sort.only Kind.BindingIdentifier) ∷ []) Kind.ImportSpecifier xs us → SpecifierAt imported (node Kind.ImportSpecifier xs us)
import_specifier [] (more a (more b none)) f = by_names imported Kind.ImportSpecifier a b (import_renamed_at a b f.placed.0 f.placed.1.0) (import_same_at a b f.placed.0 f.placed.1.0) (are_one a b) refl
import_specifier xs us f = differ (sym f.counted)

local_renamed_at : (a b : Term) → has_shape (Place.one Sort.local_export_name) a ≡ true → has_shape (Place.one Sort.module_export_name) b ≡ true → RenamedAt local Kind.ExportSpecifier a b
local_renamed_at a b ha hb =
    local_name (λ z. RenamedAt local Kind.ExportSpecifier z b)
    (λ x h g rest s. let n = free_parts x h in export_renamed n.1 (name_at g n.0 refl) (word_at spaced (codes "as") refl refl refl) (export_name_at b hb spaced rest s))
    (λ v g rest s. string_renamed (string_at g) (word_at spaced (codes "as") refl refl refl) (export_name_at b hb spaced rest s)) a ha

local_same_at : (a b : Term) → has_shape (Place.one Sort.local_export_name) a ≡ true → has_shape (Place.one Sort.module_export_name) b ≡ true → SameAt local Kind.ExportSpecifier a b
local_same_at a b ha hb =
    local_name (λ z. SameAt local Kind.ExportSpecifier z b)
    (λ x h. exported_name (λ z. SameAt local Kind.ExportSpecifier (identifier_of x) z) (λ y k e g rest s. let n = free_parts x h in subst (λ z. Specifier local (export_specifier_of (identifier_of x) (name_of z)) (led g (x ++ rest)) rest) (same_text x y e) (export_same n.1 (name_at g n.0 s))) (λ w e. differ (sym e)) b hb)
    (λ v. exported_name (λ z. SameAt local Kind.ExportSpecifier (string_of v) z) (λ y k e. differ (sym e)) (λ w e g rest s. subst (λ z. Specifier local (export_specifier_of (string_of v) (string_of z)) (led g (quoted v ++ rest)) rest) (same_text v w e) (string_same (string_at g))) b hb) a ha

local_specifier : (xs : List Text) (us : Terms) → Fit (Place.one Sort.local_export_name ∷ Place.one Sort.module_export_name ∷ []) Kind.ExportSpecifier xs us → SpecifierAt local (node Kind.ExportSpecifier xs us)
local_specifier [] (more a (more b none)) f = by_names local Kind.ExportSpecifier a b (local_renamed_at a b f.placed.0 f.placed.1.0) (local_same_at a b f.placed.0 f.placed.1.0) (are_one a b) refl
local_specifier xs us f = differ (sym f.counted)

indirect_same_at : (a b : Term) → has_shape (Place.one Sort.module_export_name) a ≡ true → has_shape (Place.one Sort.module_export_name) b ≡ true → SameAt indirect Kind.ExportSpecifier a b
indirect_same_at a b ha hb =
    exported_name (λ z. SameAt indirect Kind.ExportSpecifier z b)
    (λ x n. exported_name (λ z. SameAt indirect Kind.ExportSpecifier (name_of x) z) (λ y k e g rest s. subst (λ z. Specifier indirect (export_specifier_of (name_of x) (name_of z)) (led g (x ++ rest)) rest) (same_text x y e) (indirect_same (name_exported (name_at g n s)))) (λ w e. differ (sym e)) b hb)
    (λ v. exported_name (λ z. SameAt indirect Kind.ExportSpecifier (string_of v) z) (λ y k e. differ (sym e)) (λ w e g rest s. subst (λ z. Specifier indirect (export_specifier_of (string_of v) (string_of z)) (led g (quoted v ++ rest)) rest) (same_text v w e) (indirect_same (string_exported (string_at g)))) b hb) a ha

indirect_specifier : (xs : List Text) (us : Terms) → Fit (Place.one Sort.module_export_name ∷ Place.one Sort.module_export_name ∷ []) Kind.ExportSpecifier xs us → SpecifierAt indirect (node Kind.ExportSpecifier xs us)
indirect_specifier [] (more a (more b none)) f =
    by_names indirect Kind.ExportSpecifier a b (λ g rest s. indirect_renamed (export_name_at a f.placed.0 g _ refl) (word_at spaced (codes "as") refl refl refl) (export_name_at b f.placed.1.0 spaced rest s)) (indirect_same_at a b f.placed.0 f.placed.1.0) (are_one a b) refl
indirect_specifier xs us f = differ (sym f.counted)

-- ---- { ss }

abbrev pub AllSpecifiers : Side → Terms → Type 0
AllSpecifiers s none = Unit {0}
AllSpecifiers s (more t ts) = SpecifierAt s t × AllSpecifiers s ts

all_specifiers : (s : Side) (p : Place) → ((t : Term) → has_shape p t ≡ true → SpecifierAt s t) → (ts : Terms) → each_shaped p ts ≡ true → AllSpecifiers s ts
all_specifiers s p f none h = tt
all_specifiers s p f (more t ts) h = let both = and_parts (has_shape p t) (each_shaped p ts) h in (f t both.0, all_specifiers s p f ts both.1)

local_item : (t : Term) → has_shape (Place.one (Sort.only Kind.ExportSpecifier)) t ≡ true → SpecifierAt local t
local_item t h = only Kind.ExportSpecifier (SpecifierAt local) (λ xs us h. local_specifier xs us (fit_of (Sort.only Kind.ExportSpecifier) Kind.ExportSpecifier xs us refl h).1) t h

indirect_item : (t : Term) → has_shape (Place.one Sort.export_from_specifier) t ≡ true → SpecifierAt indirect t
indirect_item absent h = differ (sym h)
indirect_item (list ts) h = differ (sym h)
indirect_item (node k xs us) h =
    subst (λ j. has_shape (Place.one Sort.export_from_specifier) (node j xs us) ≡ true → SpecifierAt indirect (node j xs us)) (sym (kind_is k Kind.ExportSpecifier (taken_by Sort.export_from_specifier k xs us h).taken)) (λ h. indirect_specifier xs us (fit_of Sort.export_from_specifier Kind.ExportSpecifier xs us refl h).1) h

pub all_local : (ts : Terms) → each_shaped (Place.one (Sort.only Kind.ExportSpecifier)) ts ≡ true → AllSpecifiers local ts
all_local = all_specifiers local (Place.one (Sort.only Kind.ExportSpecifier)) local_item

pub all_indirect : (ts : Terms) → each_shaped (Place.one Sort.export_from_specifier) ts ≡ true → AllSpecifiers indirect ts
all_indirect = all_specifiers indirect (Place.one Sort.export_from_specifier) indirect_item

specifiers_at : (s : Side) (t : Term) (ts : Terms) → AllSpecifiers s (more t ts) → (g : Lead) (rest : Text) → stops rest ≡ true → Specifiers s (each_wrapped true never (more t ts)) (led g (separated_to comma (each_to true never (more t ts)) rest)) rest
specifiers_at s t none c g rest e = last_specifier (c.0 g rest e)
specifiers_at s t (more u us) c g rest e = let tail : Text = separated_to comma (each_to true never (more u us)) rest in and_specifier (c.0 g (44 ∷ 32 ∷ tail) refl) (comma_at flush) (specifiers_at s u us c.1 spaced rest e)

abbrev pub braced_to : Terms → To
braced_to none rest = 123 ∷ 125 ∷ rest
braced_to (more t ts) rest = 123 ∷ 32 ∷ separated_to comma (each_to true never (more t ts)) (32 ∷ 125 ∷ rest)

pub braced_at : (s : Side) (ts : Terms) → AllSpecifiers s ts → (g : Lead) (rest : Text) → Braced s (each_wrapped true never ts) (led g (braced_to ts rest)) rest
braced_at s none c g rest = braced (left_brace g) no_specifiers (right_brace flush)
braced_at s (more t ts) c g rest = braced (left_brace g) (specifiers_at s t ts c spaced (32 ∷ 125 ∷ rest) refl) (right_brace spaced)

-- ---- which specifiers stand in an import

pub data Clause : Terms → Type 0 where
  of_none : Clause none
  of_default : (xs : List Text) (us : Terms) → Clause (more (node Kind.ImportDefaultSpecifier xs us) none)
  of_namespace : (xs : List Text) (us : Terms) → Clause (more (node Kind.ImportNamespaceSpecifier xs us) none)
  of_named : (xs : List Text) (us ts : Terms) → each (is_node Kind.ImportSpecifier) ts ≡ true → Clause (more (node Kind.ImportSpecifier xs us) ts)
  of_default_namespace : (xs : List Text) (us : Terms) (ys : List Text) (vs : Terms) → Clause (more (node Kind.ImportDefaultSpecifier xs us) (more (node Kind.ImportNamespaceSpecifier ys vs) none))
  of_default_named : (xs : List Text) (us : Terms) (ys : List Text) (vs ts : Terms) → each (is_node Kind.ImportSpecifier) ts ≡ true → Clause (more (node Kind.ImportDefaultSpecifier xs us) (more (node Kind.ImportSpecifier ys vs) ts))

data SpecifierKind (k : Kind) : Type 0 where
  default_kind : k ≡ Kind.ImportDefaultSpecifier → SpecifierKind k
  namespace_kind : k ≡ Kind.ImportNamespaceSpecifier → SpecifierKind k
  named_kind : k ≡ Kind.ImportSpecifier → SpecifierKind k

specifier_kind : (k : Kind) → takes Sort.import_specifier k ≡ true → SpecifierKind k
specifier_kind Kind.ImportDefaultSpecifier h = default_kind refl
specifier_kind Kind.ImportNamespaceSpecifier h = namespace_kind refl
specifier_kind Kind.ImportSpecifier h = named_kind refl
specifier_kind k h = differ (sym h)

no_second_default : {A : Type 0} (ys : List Text) (vs ts : Terms) → are_plain_specifiers (more (node Kind.ImportDefaultSpecifier ys vs) ts) ≡ true → A
no_second_default ys vs none c = differ (sym c)
no_second_default ys vs (more t ts) c = differ (sym c)

default_namespace : (xs : List Text) (us : Terms) (ys : List Text) (vs ts : Terms) → are_plain_specifiers (more (node Kind.ImportNamespaceSpecifier ys vs) ts) ≡ true → Clause (more (node Kind.ImportDefaultSpecifier xs us) (more (node Kind.ImportNamespaceSpecifier ys vs) ts))
default_namespace xs us ys vs none c = of_default_namespace xs us ys vs
default_namespace xs us ys vs (more t ts) c = differ (sym c)

only_named : (ys : List Text) (vs ts : Terms) → are_plain_specifiers (more (node Kind.ImportSpecifier ys vs) ts) ≡ true → each (is_node Kind.ImportSpecifier) ts ≡ true
only_named ys vs none c = refl
only_named ys vs (more t ts) c = c

lone_namespace : (xs : List Text) (us ts : Terms) → are_plain_specifiers (more (node Kind.ImportNamespaceSpecifier xs us) ts) ≡ true → Clause (more (node Kind.ImportNamespaceSpecifier xs us) ts)
lone_namespace xs us none c = of_namespace xs us
lone_namespace xs us (more t ts) c = differ (sym c)

behind_default : (xs : List Text) (us ts : Terms) → each_shaped (Place.one Sort.import_specifier) ts ≡ true → are_plain_specifiers ts ≡ true → Clause (more (node Kind.ImportDefaultSpecifier xs us) ts)
behind_default xs us none h c = of_default xs us
behind_default xs us (more absent ts) h c = differ (sym h)
behind_default xs us (more (list vs) ts) h c = differ (sym h)
behind_default xs us (more (node k ys vs) ts) h c = elim (specifier_kind k (taken_by Sort.import_specifier k ys vs (and_parts (has_shape (Place.one Sort.import_specifier) (node k ys vs)) _ h).0).taken) as (λ z. Clause (more (node Kind.ImportDefaultSpecifier xs us) (more (node k ys vs) ts))) [
  | default_kind e ↦ no_second_default ys vs ts (subst (λ j. are_plain_specifiers (more (node j ys vs) ts) ≡ true) e c)
  | namespace_kind e ↦ subst (λ j. Clause (more (node Kind.ImportDefaultSpecifier xs us) (more (node j ys vs) ts))) (sym e) (default_namespace xs us ys vs ts (subst (λ j. are_plain_specifiers (more (node j ys vs) ts) ≡ true) e c))
  | named_kind e ↦ subst (λ j. Clause (more (node Kind.ImportDefaultSpecifier xs us) (more (node j ys vs) ts))) (sym e) (of_default_named xs us ys vs ts (only_named ys vs ts (subst (λ j. are_plain_specifiers (more (node j ys vs) ts) ≡ true) e c)))
]

pub clause_of : (ts : Terms) → each_shaped (Place.one Sort.import_specifier) ts ≡ true → is_import_clause ts ≡ true → Clause ts
clause_of none h c = of_none
clause_of (more absent ts) h c = differ (sym h)
clause_of (more (list vs) ts) h c = differ (sym h)
clause_of (more (node k xs us) ts) h c =
    let both = and_parts (has_shape (Place.one Sort.import_specifier) (node k xs us)) (each_shaped (Place.one Sort.import_specifier) ts) h in
    elim (specifier_kind k (taken_by Sort.import_specifier k xs us both.0).taken) as (λ z. Clause (more (node k xs us) ts)) [
      | default_kind e ↦ subst (λ j. Clause (more (node j xs us) ts)) (sym e) (behind_default xs us ts both.1 (subst (λ j. is_import_clause (more (node j xs us) ts) ≡ true) e c))
      | namespace_kind e ↦ subst (λ j. Clause (more (node j xs us) ts)) (sym e) (lone_namespace xs us ts (subst (λ j. is_import_clause (more (node j xs us) ts) ≡ true) e c))
      | named_kind e ↦ subst (λ j. Clause (more (node j xs us) ts)) (sym e) (of_named xs us ts (only_named xs us ts (subst (λ j. is_import_clause (more (node j xs us) ts) ≡ true) e c)))
    ]

pub all_imported : (ts : Terms) → each_shaped (Place.one Sort.import_specifier) ts ≡ true → each (is_node Kind.ImportSpecifier) ts ≡ true → AllSpecifiers imported ts
all_imported none h e = tt
all_imported (more absent ts) h e = differ (sym h)
all_imported (more (list us) ts) h e = differ (sym h)
all_imported (more (node k xs us) ts) h e =
    let both = and_parts (has_shape (Place.one Sort.import_specifier) (node k xs us)) (each_shaped (Place.one Sort.import_specifier) ts) h in
    let named = and_parts (is_node Kind.ImportSpecifier (node k xs us)) (each (is_node Kind.ImportSpecifier) ts) e in
    (subst (λ j. has_shape (Place.one Sort.import_specifier) (node j xs us) ≡ true → SpecifierAt imported (node j xs us)) (sym (kind_is k Kind.ImportSpecifier named.0)) (λ h. import_specifier xs us (fit_of Sort.import_specifier Kind.ImportSpecifier xs us refl h).1) both.0, all_imported ts both.1 named.1)

-- a specifier that binds one name
pub bound_part : (k : Kind) (xs : List Text) (us : Terms) → are_words [] xs && are_many (Place.one (Sort.only Kind.BindingIdentifier) ∷ []) us ≡ true → Placed (Place.one (Sort.only Kind.BindingIdentifier) ∷ []) us → (P : Term → Type 0) → ((x : Text) → (is_name x ≡ true) × (is_reserved x ≡ false) → P (of_part k (binding_of x))) → P (node k xs us)
bound_part k [] (more p none) c h P f = leaf Kind.BindingIdentifier is_free_name refl refl (λ texts. refl) (λ z. P (of_part k z)) (λ x b. f x (free_parts x b)) p h.0
bound_part k xs us c h P f = differ (sym c)
