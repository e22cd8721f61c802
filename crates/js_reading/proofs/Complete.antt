-- What is spelled as a module is read, and so a text spells one module at most.
use Rattle.std.proofs.Common.{◌≡◌, ◌≤◌, ℕ, true, false, List, [], ◌∷◌, ◌++◌, Some, None, refl, sym, subst, ◌∙◌, ap}
use Rattle.std.proofs.lemmas.Bool.{false≢true, or_parts}
use Rattle.js_term.specs.Term.{Text, Term, absent, list, node, Terms, none, more, all, depth}
use Rattle.js_syntax.specs.Lexical.{begins_any, line_ends, has_line_end, ends_line}
use Rattle.js_syntax.specs.Nodes.{module_of}
use Rattle.js_syntax.specs.Modules as module'
use Rattle.js_syntax.specs.Modules.{Hashbang}
use Rattle.js_tokens.specs.Next.{lexeme, next, cut, private_identifier_cut}
use Rattle.js_tokens.proofs.GapLaws.{across, ends_free}
use Rattle.js_reading.specs.Reading.{Reading, at_end}
use Rattle.js_reading.specs.Read.{read_body}
use Rattle.js_reading.specs.Laws.{ReadBehind, Complete, Unique}
use Rattle.js_reading.proofs.Each.{not_true}
use Rattle.js_reading.proofs.ModulesThere.{IsReadModule, spells_read}

-- ---- a text has one hashbang, or none

-- where a line stands before its end, none ends
no_line_end : (c : ℕ) (x a : Text) → has_line_end (c ∷ x) ≡ false → ends_line a ≡ true → ends_line (c ∷ (x ++ a)) ≡ true → ⊥
no_line_end c x a plain ends h = false≢true (sym (across c x a (ends_free a ends) ∙ (or_parts (begins_any line_ends (c ∷ x)) _ plain).0) ∙ h)

line_cut : (x y a b : Text) → has_line_end x ≡ false → has_line_end y ≡ false → ends_line a ≡ true → ends_line b ≡ true → x ++ a ≡ y ++ b → (x ≡ y) × (a ≡ b)
line_cut [] [] a b plain plain' ends ends' e = (refl, e)
line_cut [] (d ∷ y) a b plain plain' ends ends' e = absurd (no_line_end d y b plain' ends' (subst (λ z. ends_line z ≡ true) e ends))
line_cut (c ∷ x) [] a b plain plain' ends ends' e = absurd (no_line_end c x a plain ends (subst (λ z. ends_line z ≡ true) (sym e) ends'))
line_cut (c ∷ x) (d ∷ y) a b plain plain' ends ends' e =
    let first : c ≡ d = cc in
    let rest : x ++ a ≡ y ++ b = cc in
    let (same, left) = line_cut x y a b (or_parts (begins_any line_ends (c ∷ x)) _ plain).1 (or_parts (begins_any line_ends (d ∷ y)) _ plain').1 ends ends' rest in
    (cc, left)

mark_no_token : (s : Text) → lexeme (35 ∷ 33 ∷ s) ≡ None
unfolding lexeme next cut private_identifier_cut
mark_no_token s = refl

mark_no_end : (s : Text) → at_end (35 ∷ 33 ∷ s) ≡ false
unfolding at_end
mark_no_end s = refl

no_mark : (s b : Text) → 35 ∷ 33 ∷ s ≡ b → (lexeme b ≡ None → at_end b ≡ true) → ⊥
no_mark s b e h = false≢true (sym (mark_no_end s) ∙ ap at_end e ∙ h (ap lexeme (sym e) ∙ mark_no_token s))

same_hashbang : {hs hs' : List Text} {a a' b b' : Text} → a ≡ a' → Hashbang hs a b → Hashbang hs' a' b' → (lexeme b ≡ None → at_end b ≡ true) → (lexeme b' ≡ None → at_end b' ≡ true) → (hs ≡ hs') × (b ≡ b')
same_hashbang e module'.no_hashbang module'.no_hashbang h h' = (refl, e)
same_hashbang {b = b} e module'.no_hashbang (module'.hashbang {x} {a} plain ends) h h' = absurd (no_mark (x ++ a) b (sym e) h)
same_hashbang {b' = b'} e (module'.hashbang {x} {a} plain ends) module'.no_hashbang h h' = absurd (no_mark (x ++ a) b' e h')
same_hashbang e (module'.hashbang {x} {a} plain ends) (module'.hashbang {x = y} {a = b} plain' ends') h h' =
    let rest : x ++ a ≡ y ++ b = cc in
    let (line, left) = line_cut x y a b (not_true (has_line_end x) plain) (not_true (has_line_end y) plain') ends ends' rest in
    (ap (λ z. z ∷ []) line, left)

-- ---- the parts of a module

abbrev listed : Terms → List Term
listed none = []
listed (more t ts) = t ∷ listed ts

listed_all : (ts : List Term) → listed (all ts) ≡ ts
listed_all [] = refl
listed_all (t ∷ ts) = ap (λ us. t ∷ us) (listed_all ts)

abbrev hashbang_in : Term → List Text
hashbang_in (node k texts ts) = texts
hashbang_in t = []

abbrev directives_in : Term → Terms
directives_in (node k texts (more (list ds) ts)) = ds
directives_in t = none

abbrev items_in : Term → Terms
items_in (node k texts (more ds (more (list ss) ts))) = ss
items_in t = none

abbrev module_by : List Text → Reading (List Term × List Term) → Term
module_by hs None = absent
module_by hs (Some p) = module_of hs p.0.0 p.0.1

-- ---- the laws

pub complete : Complete
complete = record { read = λ hs ds ss a u s fits. whole hs ds ss a (spells_read s u) fits }
  where
    whole : (hs : List Text) (ds ss : List Term) (a : Text) → IsReadModule (module_of hs ds ss) a → depth (module_of hs ds ss) ≤ 512 → ReadBehind hs ds ss a
    whole hs ds ss a r fits =
        let first : hs ≡ r.hashbang = ap hashbang_in r.whole in
        let second : ds ≡ r.directives = sym (listed_all ds) ∙ ap (λ t. listed (directives_in t)) r.whole ∙ listed_all r.directives in
        let third : ss ≡ r.statements = sym (listed_all ss) ∙ ap (λ t. listed (items_in t)) r.whole ∙ listed_all r.statements in
        record {
          behind = r.behind;
          rest = r.rest;
          opened = subst (λ z. Hashbang z a r.behind) (sym first) r.opened;
          reads = r.reads fits ∙ rw (second, third);
        }

pub unique : Unique
unique = record { same = λ t t' a u s s' fits fits'. agree t t' a (spells_read s u) (spells_read s' u) fits fits' }
  where
    agree : (t t' : Term) (a : Text) → IsReadModule t a → IsReadModule t' a → depth t ≤ 512 → depth t' ≤ 512 → t ≡ t'
    agree t t' a r r' fits fits' =
        let (bang, behind) = same_hashbang refl r.opened r'.opened r.token r'.token in
        r.whole ∙ ap (module_by r.hashbang) (sym (r.reads fits) ∙ ap read_body behind ∙ r'.reads fits') ∙ ap (λ hs. module_of hs r'.directives r'.statements) bang ∙ sym r'.whole
