-- Lists that stand in a text are read.
use Rattle.std.proofs.Common.{◌≡◌, ◌≤◌, ◌<◌, ℕ, zero, suc, Bool, true, false, not, List, [], ◌∷◌, ◌++◌, length, Option, Some, None, refl, sym, ◌∙◌, ap, append_assoc, arith, codes}
use Rattle.std.proofs.lemmas.Bool.{false≢true, not-true}
use Rattle.js_term.specs.Term.{Text, is_text}
use Rattle.js_term.specs.Lexeme.{is_one_of}
use Rattle.js_syntax.specs.Tokens.{Lexeme, word, private_name, number, big_integer, string, regexp, no_substitution, template_head, template_middle, template_tail, sign}
use Rattle.js_syntax.proofs.Fronts.{same_text, among}
use Rattle.js_tokens.specs.Next.{lexeme}
use Rattle.js_reading.specs.Reading.{Reading, is_sign, sees, separated, items, group}
use Rattle.js_reading.proofs.TokensThere.{Seen, sees_by}
use Rattle.js_reading.proofs.Opens.{begins, begins_by}

-- ---- what closes a list, and what ends an expression of it

abbrev pub is_closer : Text → Bool
is_closer s = is_one_of s (codes ")" ∷ codes "]" ∷ codes "}" ∷ [])

abbrev pub is_closing : Option Lexeme → Bool
is_closing (Some (sign s)) = is_closer s
is_closing o = false

abbrev pub is_ending : Text → Bool
is_ending s = is_one_of s (codes ")" ∷ codes "]" ∷ codes "}" ∷ codes "," ∷ codes ";" ∷ codes ":" ∷ [])

abbrev pub is_end : Option Lexeme → Bool
is_end (Some (sign s)) = is_ending s
is_end o = false

-- what stands behind an item of a literal
abbrev pub is_separating : Text → Bool
is_separating s = is_one_of s (codes ")" ∷ codes "]" ∷ codes "}" ∷ codes "," ∷ [])

abbrev pub separates : Option Lexeme → Bool
separates (Some (sign s)) = is_separating s
separates o = false

-- the sign that is seen
pub seen_sign : (s : Text) (o : Option Lexeme) → is_sign s o ≡ true → o ≡ Some (sign s)
seen_sign s None e = absurd (false≢true e)
seen_sign s (Some (sign t)) e = ap (λ (z : Text). Some (sign z)) (same_text t s e)
seen_sign s (Some (word x)) e = absurd (false≢true e)
seen_sign s (Some (private_name x)) e = absurd (false≢true e)
seen_sign s (Some (number x)) e = absurd (false≢true e)
seen_sign s (Some (big_integer x)) e = absurd (false≢true e)
seen_sign s (Some (string x v)) e = absurd (false≢true e)
seen_sign s (Some (regexp x v)) e = absurd (false≢true e)
seen_sign s (Some (no_substitution x)) e = absurd (false≢true e)
seen_sign s (Some (template_head x)) e = absurd (false≢true e)
seen_sign s (Some (template_middle x)) e = absurd (false≢true e)
seen_sign s (Some (template_tail x)) e = absurd (false≢true e)

pub sees_sign : (s a : Text) → sees s a ≡ true → lexeme a ≡ Some (sign s)
unfolding sees
sees_sign s a e = seen_sign s (lexeme a) e

closer_ends : (s : Text) → is_closer s ≡ true → is_ending s ≡ true
closer_ends s h = among is_ending (codes ")" ∷ codes "]" ∷ codes "}" ∷ []) s refl h

pub closer_end : (s a : Text) → is_closer s ≡ true → sees s a ≡ true → is_end (lexeme a) ≡ true
closer_end s a h e = ap is_end (sees_sign s a e) ∙ closer_ends s h

pub ending_end : (s a : Text) → is_ending s ≡ true → sees s a ≡ true → is_end (lexeme a) ≡ true
ending_end s a h e = ap is_end (sees_sign s a e) ∙ h

pub separates_end : (o : Option Lexeme) → separates o ≡ true → is_end o ≡ true
separates_end None h = absurd (false≢true h)
separates_end (Some (sign s)) h = among is_ending (codes ")" ∷ codes "]" ∷ codes "}" ∷ codes "," ∷ []) s refl h
separates_end (Some (word x)) h = absurd (false≢true h)
separates_end (Some (private_name x)) h = absurd (false≢true h)
separates_end (Some (number x)) h = absurd (false≢true h)
separates_end (Some (big_integer x)) h = absurd (false≢true h)
separates_end (Some (string x v)) h = absurd (false≢true h)
separates_end (Some (regexp x v)) h = absurd (false≢true h)
separates_end (Some (no_substitution x)) h = absurd (false≢true h)
separates_end (Some (template_head x)) h = absurd (false≢true h)
separates_end (Some (template_middle x)) h = absurd (false≢true h)
separates_end (Some (template_tail x)) h = absurd (false≢true h)

closer_separates : (s a : Text) → is_closer s ≡ true → sees s a ≡ true → separates (lexeme a) ≡ true
closer_separates s a h e = ap separates (sees_sign s a e) ∙ among is_separating (codes ")" ∷ codes "]" ∷ codes "}" ∷ []) s refl h

comma_separates : (a : Text) → sees (codes ",") a ≡ true → separates (lexeme a) ≡ true
comma_separates a e = ap separates (sees_sign (codes ",") a e)

-- a sign that is none of those
sign_apart : (p : Text → Bool) (s : Text) (o : Option Lexeme) (q : Option Lexeme → Bool) → ((t : Text) → q (Some (sign t)) ≡ p t) → q o ≡ false → p s ≡ true → is_sign s o ≡ false
sign_apart p s o q by h h' = go (is_sign s o) refl
  where
    go : (b : Bool) → is_sign s o ≡ b → is_sign s o ≡ false
    go false e = e
    go true e = absurd (false≢true (sym h ∙ ap q (seen_sign s o e) ∙ by s ∙ h'))

pub no_closer_there : (s a : Text) → is_closing (lexeme a) ≡ false → is_closer s ≡ true → sees s a ≡ false
unfolding sees
no_closer_there s a h closer = sign_apart is_closer s (lexeme a) is_closing (λ t. refl) h closer

-- where an expression begins, nothing closes
begins_open : (o : Option Lexeme) → begins o ≡ true → is_closing o ≡ false
begins_open None h = refl
begins_open (Some (sign s)) h = go (is_closer s) refl
  where
    go : (b : Bool) → is_closer s ≡ b → is_closer s ≡ false
    go false e = e
    go true e = absurd (false≢true (sym (not-true _ (among (λ t. not (begins_by (sign t))) (codes ")" ∷ codes "]" ∷ codes "}" ∷ []) s refl e)) ∙ h))
begins_open (Some (word x)) h = refl
begins_open (Some (private_name x)) h = refl
begins_open (Some (number x)) h = refl
begins_open (Some (big_integer x)) h = refl
begins_open (Some (string x v)) h = refl
begins_open (Some (regexp x v)) h = refl
begins_open (Some (no_substitution x)) h = refl
begins_open (Some (template_head x)) h = refl
begins_open (Some (template_middle x)) h = refl
begins_open (Some (template_tail x)) h = refl

pub begins_no_closer : (a : Text) → begins (lexeme a) ≡ true → is_closing (lexeme a) ≡ false
begins_no_closer a h = begins_open (lexeme a) h

comma_open : (a : Text) → sees (codes ",") a ≡ true → is_closing (lexeme a) ≡ false
comma_open a e = ap is_closing (sees_sign (codes ",") a e)

pub comma_seen : {a b : Text} → Seen (sign (codes ",")) a b → sees (codes ",") a ≡ true
comma_seen x = sees_by (codes ",") x

-- a sign that closes is no comma
closer_no_comma : (s a : Text) → is_closer s ≡ true → sees s a ≡ true → sees (codes ",") a ≡ false
unfolding sees
closer_no_comma s a h e = ap (is_sign (codes ",")) (sees_sign s a e) ∙ not-true _ (among (λ t. not (is_text t (codes ","))) (codes ")" ∷ codes "]" ∷ codes "}" ∷ []) s refl h)

-- ---- items

-- An item is read before a comma, and before what closes a list unless it is a hole; elsewhere where `ok` says that what
-- comes next takes none of it.
pub record ReadsItem {A : Type 0} (hole ok : Bool) (item : Text → Reading A) (x : A) (a b : Text) : Type 0 where
  pub short : length b ≤ length a
  pub shorter : hole ≡ false → length b < length a
  pub starts : hole ≡ false → is_closing (lexeme a) ≡ false
  pub begun : sees (codes ",") b ≡ true → is_closing (lexeme a) ≡ false
  pub comma : sees (codes ",") b ≡ true → item a ≡ Some (x, b)
  pub ended : hole ≡ false → separates (lexeme b) ≡ true → item a ≡ Some (x, b)
  pub reads : ok ≡ true → item a ≡ Some (x, b)

-- one that is no hole
pub separate_item : {A : Type 0} {item : Text → Reading A} {x : A} {a b : Text} (ok : Bool) → length b < length a → is_closing (lexeme a) ≡ false → (separates (lexeme b) ≡ true → item a ≡ Some (x, b)) → (ok ≡ true → item a ≡ Some (x, b)) → ReadsItem false ok item x a b
separate_item {b = b} ok shorter starts ended reads = record {
  short = omega arith;
  shorter = λ h. shorter;
  starts = λ h. starts;
  begun = λ h. starts;
  comma = λ h. ended (comma_separates b h);
  ended = λ h e. ended e;
  reads = λ h. reads h;
}

pub some_item : {A : Type 0} {item : Text → Reading A} {x : A} {a b : Text} (ok : Bool) → length b < length a → is_closing (lexeme a) ≡ false → (is_end (lexeme b) ≡ true → item a ≡ Some (x, b)) → (ok ≡ true → item a ≡ Some (x, b)) → ReadsItem false ok item x a b
some_item {b = b} ok shorter starts ended reads = separate_item ok shorter starts (λ h. ended (separates_end (lexeme b) h)) reads

-- nothing, before a comma
pub hole_item : {A : Type 0} {item : Text → Reading A} {x : A} {a : Text} → (sees (codes ",") a ≡ true → item a ≡ Some (x, a)) → ReadsItem true false item x a a
hole_item {a = a} reads = record {
  short = omega arith;
  shorter = λ h. absurd (false≢true (sym h));
  starts = λ h. absurd (false≢true (sym h));
  begun = λ h. comma_open a h;
  comma = λ h. reads h;
  ended = λ h e. absurd (false≢true (sym h));
  reads = λ h. absurd (false≢true h);
}

pub record ReadsAll {A : Type 0} (hole ok : Bool) (item : Text → Reading A) (xs : List A) (a b : Text) : Type 0 where
  pub short : length b ≤ length a
  pub starts : hole ≡ false → is_closing (lexeme a) ≡ false
  pub begun : sees (codes ",") b ≡ true → is_closing (lexeme a) ≡ false
  pub separated : (n : ℕ) (found : List A) → length a ≤ n → hole ≡ false → ok ≡ true → sees (codes ",") b ≡ false → separated item n found a ≡ Some (found ++ xs, b)
  pub plain : (close : Text) (n : ℕ) (found : List A) → is_closer close ≡ true → hole ≡ false → length a ≤ n → sees close b ≡ true → items item close n found a ≡ Some ((found ++ xs, false), b)
  pub comma : {c : Text} (close : Text) (n : ℕ) (found : List A) → is_closer close ≡ true → length a ≤ n → Seen (sign (codes ",")) b c → sees close c ≡ true → items item close n found a ≡ Some ((found ++ xs, true), c)

last_separated : {A : Type 0} {hole ok : Bool} {item : Text → Reading A} {x : A} {a b : Text} → ReadsItem hole ok item x a b → (n : ℕ) (found : List A) → length a ≤ n → hole ≡ false → ok ≡ true → sees (codes ",") b ≡ false → separated item n found a ≡ Some (found ++ x ∷ [], b)
unfolding separated
last_separated r zero found enough whole yes' h = absurd (let s = r.shorter whole in omega arith)
last_separated r (suc n) found enough whole yes' h = rw (r.reads yes', h)

last_plain : {A : Type 0} {hole ok : Bool} {item : Text → Reading A} {x : A} {a b : Text} → ReadsItem hole ok item x a b → (close : Text) (n : ℕ) (found : List A) → is_closer close ≡ true → hole ≡ false → length a ≤ n → sees close b ≡ true → items item close n found a ≡ Some ((found ++ x ∷ [], false), b)
unfolding items
last_plain r close zero found closer whole enough h = absurd (let s = r.shorter whole in omega arith)
last_plain {b = b} r close (suc n) found closer whole enough h = rw (r.ended whole (closer_separates close b closer h), closer_no_comma close b closer h)

last_comma : {A : Type 0} {hole ok : Bool} {item : Text → Reading A} {x : A} {a b c : Text} → ReadsItem hole ok item x a b → (close : Text) (n : ℕ) (found : List A) → length a ≤ n → Seen (sign (codes ",")) b c → sees close c ≡ true → items item close n found a ≡ Some ((found ++ x ∷ [], true), c)
unfolding items
last_comma r close zero found enough tok is = absurd (let s = r.short in let s2 = tok.shorter in omega arith)
last_comma r close (suc n) found enough tok is = rw (r.comma (comma_seen tok), comma_seen tok, tok.after_is, is)

pub last_all : {A : Type 0} {hole ok : Bool} {item : Text → Reading A} {x : A} {a b : Text} → ReadsItem hole ok item x a b → ReadsAll hole ok item (x ∷ []) a b
last_all r = record {
  short = r.short;
  starts = λ h. r.starts h;
  begun = λ h. r.begun h;
  separated = λ n found enough whole yes' h. last_separated r n found enough whole yes' h;
  plain = λ close n found closer whole enough h. last_plain r close n found closer whole enough h;
  comma = λ close n found closer enough tok is. last_comma r close n found enough tok is;
}

more_separated : {A : Type 0} {hole ok : Bool} {item : Text → Reading A} {x : A} {a b c : Text} → ReadsItem hole ok item x a b → Seen (sign (codes ",")) b c → (n : ℕ) (found : List A) → separated item (suc n) found a ≡ separated item n (found ++ x ∷ []) c
unfolding separated
more_separated r tok n found = rw (r.comma (comma_seen tok), comma_seen tok, tok.after_is)

more_items : {A : Type 0} {hole ok : Bool} {item : Text → Reading A} {x : A} {a b c : Text} → ReadsItem hole ok item x a b → Seen (sign (codes ",")) b c → (close : Text) (n : ℕ) (found : List A) → sees close c ≡ false → items item close (suc n) found a ≡ items item close n (found ++ x ∷ []) c
unfolding items
more_items r tok close n found other = rw (r.comma (comma_seen tok), comma_seen tok, tok.after_is, other)

pub and_all : {A : Type 0} {hole' ok' hole ok : Bool} {item : Text → Reading A} {x : A} {xs : List A} {a b c d : Text} → ReadsItem hole' ok' item x a b → Seen (sign (codes ",")) b c → ReadsAll hole ok item xs c d → ReadsAll hole ok item (x ∷ xs) a d
and_all {A} {hole'} {ok'} {hole} {ok} {item} {x} {xs} {a} {b} {c} {d} r tok rest = record {
  short = let s1 = r.short in let s2 = tok.shorter in let s3 = rest.short in omega arith;
  starts = λ h. r.begun (comma_seen tok);
  begun = λ h. r.begun (comma_seen tok);
  separated = λ n found enough whole yes' h. one n found enough whole yes' h;
  plain = λ close n found closer whole enough h. two close n found closer whole enough h;
  comma = λ {c} close n found closer enough more is. three c close n found closer enough more is;
}
  where
    one : (n : ℕ) (found : List A) → length a ≤ n → hole ≡ false → ok ≡ true → sees (codes ",") d ≡ false → separated item n found a ≡ Some (found ++ x ∷ xs, d)
    one zero found enough whole yes' h = absurd (let s = r.short in let s2 = tok.shorter in omega arith)
    one (suc n) found enough whole yes' h =
        more_separated r tok n found ∙ rest.separated n (found ++ x ∷ []) (let s1 = r.short in let s2 = tok.shorter in omega arith) whole yes' h
        ∙ ap (λ ys. Some (ys, d)) (append_assoc found (x ∷ []) xs)

    two : (close : Text) (n : ℕ) (found : List A) → is_closer close ≡ true → hole ≡ false → length a ≤ n → sees close d ≡ true → items item close n found a ≡ Some ((found ++ x ∷ xs, false), d)
    two close zero found closer whole enough h = absurd (let s = r.short in let s2 = tok.shorter in omega arith)
    two close (suc n) found closer whole enough h =
        more_items r tok close n found (no_closer_there close c (rest.starts whole) closer)
        ∙ rest.plain close n (found ++ x ∷ []) closer whole (let s1 = r.short in let s2 = tok.shorter in omega arith) h
        ∙ ap (λ ys. Some ((ys, false), d)) (append_assoc found (x ∷ []) xs)

    three : (y close : Text) (n : ℕ) (found : List A) → is_closer close ≡ true → length a ≤ n → Seen (sign (codes ",")) d y → sees close y ≡ true → items item close n found a ≡ Some ((found ++ x ∷ xs, true), y)
    three y close zero found closer enough more is = absurd (let s = r.short in let s2 = tok.shorter in omega arith)
    three y close (suc n) found closer enough more is =
        more_items r tok close n found (no_closer_there close c (rest.begun (comma_seen more)) closer)
        ∙ rest.comma close n (found ++ x ∷ []) closer (let s1 = r.short in let s2 = tok.shorter in omega arith) more is
        ∙ ap (λ ys. Some ((ys, true), y)) (append_assoc found (x ∷ []) xs)

-- ---- a list between signs, and whether a comma stands behind it

pub record ReadsGroup {A : Type 0} (item : Text → Reading A) (xs : List A) (comma : Bool) (a b : Text) : Type 0 where
  pub short : length b ≤ length a
  pub reads : (close : Text) → is_closer close ≡ true → sees close b ≡ true → group item close a ≡ Some ((xs, comma), b)

pub group_none : {A : Type 0} {item : Text → Reading A} {a : Text} → ReadsGroup item [] false a a
unfolding group
group_none = record { short = omega arith; reads = λ close h is. rw is }

pub group_some : {A : Type 0} {hole ok : Bool} {item : Text → Reading A} {xs : List A} {a b : Text} → hole ≡ false → ReadsAll hole ok item xs a b → ReadsGroup item xs false a b
unfolding group
group_some {a = a} whole r = record {
  short = r.short;
  reads = λ close h is. rw (no_closer_there close a (r.starts whole) h, r.plain close (length a) [] h whole (omega arith) is);
}

pub group_comma : {A : Type 0} {hole ok : Bool} {item : Text → Reading A} {xs : List A} {a b c : Text} → ReadsAll hole ok item xs a b → Seen (sign (codes ",")) b c → ReadsGroup item xs true a c
unfolding group
group_comma {a = a} r tok = record {
  short = let s = r.short in let s2 = tok.shorter in omega arith;
  reads = λ close h is. rw (no_closer_there close a (r.begun (comma_seen tok)) h, r.comma close (length a) [] h (omega arith) tok is);
}
