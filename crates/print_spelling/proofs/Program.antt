-- A whole module, printed, spells the module with its parentheses (ECMAScript 16.2).
use Rattle.std.proofs.Common.{◌≡◌, refl, sym, ◌∙◌, subst, suc, arith, nat_eq, List, [], ◌∷◌, ◌++◌, append_assoc, true}
use Rattle.std.specs.Prelude.{length}
use Rattle.std.proofs.lemmas.Bool.{and_parts, eqb-true}
use Rattle.std.proofs.lemmas.List.{append-nil}
use Rattle.js_term.specs.Term.{Text, Term, absent, list, node, Terms, none, more, two, flag}
use Rattle.js_term.specs.declared.kind.Kind.{Kind}
use Rattle.js_syntax.specs.Lexical.{is_hashbang}
use Rattle.js_syntax.specs.Tokens.{AtEnd}
use Rattle.js_syntax.specs.Texts.{has_texts, is_head, pass}
use Rattle.js_syntax.specs.Nodes.{module_of}
use Rattle.js_syntax.specs.Sorts.{Sort, Place, takes_node}
use Rattle.js_syntax.specs.Places.{places_at, are_as_many}
use Rattle.js_syntax.specs.Printable.{has_shape, fits, is_sound, has_chains, is_printable}
use Rattle.js_syntax.specs.Super.{has_super_at_home}
use Rattle.js_syntax.specs.Spelling.{no_directives}
use Rattle.js_syntax.specs.Modules.{no_more_items, Hashbang, no_hashbang, hashbang, Spells, spells}
use Rattle.print_layout.specs.Rows.{line, has_items}
use Rattle.print_layout.specs.Needs.{never}
use Rattle.print_layout.specs.Layout.{wrapped, each_wrapped, module_text, module_tree}
use Rattle.print_spelling.specs.Laws.{Printed}
use Rattle.print_spelling.proofs.Tokens.{differ, or_by, Lead, flush, below, led, ends_line, front_of}
use Rattle.print_spelling.proofs.Spread.{to, each_to, separated_to, text_same}
use Rattle.print_spelling.proofs.Fits.{are_many, Placed, placed_of, list_shape, each_shaped}
use Rattle.print_spelling.proofs.Shapes.{only}
use Rattle.print_spelling.proofs.Claims.{Claim, Each, off}
use Rattle.print_spelling.proofs.Bodies.{directives_at, no_string}
use Rattle.print_spelling.proofs.Items.{items_at}
use Rattle.print_spelling.proofs.Trees.{tree_claim}
use Rattle.print_spelling.proofs.Stripped.{strip_wrapped}

at_end : (g : Lead) → AtEnd (led g [])
at_end g = record { line = ends_line g; front = front_of g [] refl }

-- directives and items, a line each
abbrev lines_to : Terms → Terms → Text
lines_to ds ss = separated_to line (each_to true never ds) (flag (has_items (list ds)) line ++ separated_to line (each_to true never ss) (flag (has_items (list ss)) line ++ []))

lines_spell : (hs : List Text) (a : Text) (g : Lead) (ds ss : Terms) → each_shaped (Place.one (Sort.only Kind.Directive)) ds ≡ true → each_shaped (Place.one Sort.module_item) ss ≡ true → Each off ss → Hashbang hs a (led g (lines_to ds ss)) → Spells a (module_of hs (each_wrapped true never ds) (each_wrapped true never ss))
lines_spell hs a g none none hd hi c h = spells {ds = []} {ss = []} refl h no_directives no_more_items (at_end g)
lines_spell hs a g none (more t ts) hd hi c h = spells {ds = []} {ss = each_wrapped true never (more t ts)} (no_string t) h no_directives (items_at t ts hi c g (10 ∷ [])) (at_end below)
lines_spell hs a g (more d ds) none hd hi c h = spells {ds = each_wrapped true never (more d ds)} {ss = []} refl h (directives_at line below (λ a. refl) d ds hd g (10 ∷ [])) no_more_items (at_end below)
lines_spell hs a g (more d ds) (more t ts) hd hi c h =
    spells {ds = each_wrapped true never (more d ds)} {ss = each_wrapped true never (more t ts)} (no_string t) h (directives_at line below (λ a. refl) d ds hd g (10 ∷ separated_to line (each_to true never (more t ts)) (10 ∷ []))) (items_at t ts hi c below (10 ∷ [])) (at_end below)

abbrev TextSpells : Term → Type 0
TextSpells t = Spells (to true never t []) (wrapped true never t)

two_heads : {A : Type 0} (x y : Text) (xs : List Text) → is_head (x ∷ y ∷ xs) ≡ true → A
two_heads x y xs h =
    or_by (pass [] (x ∷ y ∷ xs)) (pass (is_hashbang ∷ []) (x ∷ y ∷ xs))
    (λ p. let e : suc (suc (length xs)) ≡ 0 = eqb-true (suc (suc (length xs))) 0 (and_parts (nat_eq (suc (suc (length xs))) 0) _ p).0 in absurd (omega arith))
    (λ p. let e : suc (suc (length xs)) ≡ 1 = eqb-true (suc (suc (length xs))) 1 (and_parts (nat_eq (suc (suc (length xs))) 1) _ p).0 in absurd (omega arith)) h

-- behind the line of a hashbang or none
headed : (xs : List Text) → is_head xs ≡ true → (ds ss : Terms) → each_shaped (Place.one (Sort.only Kind.Directive)) ds ≡ true → each_shaped (Place.one Sort.module_item) ss ≡ true → Each off ss → TextSpells (node Kind.Program xs (two (list ds) (list ss)))
headed [] e ds ss hd hi c = lines_spell [] (lines_to ds ss) flush ds ss hd hi c no_hashbang
headed (x ∷ []) e ds ss hd hi c =
    let rest : Text = lines_to ds ss in
    let named : is_hashbang x ≡ true = (and_parts (is_hashbang x) true e).0 in
    subst (λ z. Spells (35 ∷ 33 ∷ z) (wrapped true never (node Kind.Program (x ∷ []) (two (list ds) (list ss))))) (sym (append_assoc x (10 ∷ []) rest))
    (lines_spell (x ∷ []) (35 ∷ 33 ∷ (x ++ 10 ∷ rest)) below ds ss hd hi c (hashbang named refl))
headed (x ∷ y ∷ xs) e ds ss hd hi c = two_heads x y xs e

parted : (xs : List Text) (ts : Terms) → is_head xs ≡ true → are_many (Place.many (Sort.only Kind.Directive) ∷ Place.many Sort.module_item ∷ []) ts ≡ true → Placed (Place.many (Sort.only Kind.Directive) ∷ Place.many Sort.module_item ∷ []) ts → Claim off (node Kind.Program xs ts) → TextSpells (node Kind.Program xs ts)
parted xs (more (list ds) (more (list ss) none)) e n h c =
    headed xs e ds ss (list_shape (Place.many (Sort.only Kind.Directive)) ds h.0).1 (list_shape (Place.many Sort.module_item) ss h.1.0).1 c.1.1.0
parted xs (more absent (more t none)) e n h c = differ (sym h.0)
parted xs (more (node k ys us) (more t none)) e n h c = differ (sym h.0)
parted xs (more (list ds) (more absent none)) e n h c = differ (sym h.1.0)
parted xs (more (list ds) (more (node k ys us) none)) e n h c = differ (sym h.1.0)
parted xs none e n h c = differ (sym n)
parted xs (more t none) e n h c = differ (sym n)
parted xs (more t (more u (more v ts))) e n h c = differ (sym n)

program_spells : (xs : List Text) (ts : Terms) → has_shape (Place.one (Sort.only Kind.Program)) (node Kind.Program xs ts) ≡ true → Claim off (node Kind.Program xs ts) → TextSpells (node Kind.Program xs ts)
program_spells xs ts h c =
    let both = and_parts (fits (Place.one (Sort.only Kind.Program)) Kind.Program xs ts) _ h in
    let a = and_parts _ (is_sound Kind.Program xs ts) both.0 in
    let b = and_parts _ (are_as_many (places_at (Sort.only Kind.Program) Kind.Program xs) ts) a.0 in
    let d = and_parts (takes_node (Place.one (Sort.only Kind.Program)) Kind.Program xs) (has_texts Kind.Program xs) b.0 in
    let f = placed_of (Sort.only Kind.Program) Kind.Program xs ts h in
    parted xs ts d.1 f.0 f.1 c

-- the text of a module, and its tree with parentheses
module_spells : (t : Term) → is_printable t ≡ true → Spells (module_text t) (module_tree t)
module_spells t h =
    let both = and_parts _ (has_super_at_home t) h in
    let shape = and_parts (has_shape (Place.one (Sort.only Kind.Program)) t) (has_chains t) both.0 in
    let claim = tree_claim (Sort.only Kind.Program) refl t shape.0 shape.1 in
    subst (λ a. Spells a (module_tree t)) (sym (text_same true never t []) ∙ append-nil (module_text t))
    (only Kind.Program (λ z. Claim off z → TextSpells z) program_spells t shape.0 claim)

pub printed_modules : Printed
printed_modules = record { spelled = module_spells; same = λ t. strip_wrapped true never t }
