-- What the status of a run says of the request, where no fault rose.
use Rattle.std.proofs.Common.{◌≡◌, ◌⊎◌, ◌↔◌, ◌≤◌, ℕ, length, inl, inr, arith, Some, None, IfSome}
use Rattle.std.specs.Prelude.{Option}
use Rattle.std.specs.Cmp.{below_irrefl}
use Rattle.std.proofs.lemmas.Bool.{cases_eq}
use Rattle.std.proofs.lemmas.Option.{IfSome_then}
use Rattle.js_term.specs.Term.{Text}
use Rattle.prepare_program.specs.Report.{HasReason, IsForReadable}
use Rattle.prepare_program.specs.Run.{limit, Overruns}
use Rattle.prepare_program.proofs.Reasons.{readable_has_no_reason}

-- a request is reported, refused, or memory is wanting
abbrev IsSettled : ℕ → Text → Type 0
IsSettled status given = ((status ≡ 0) × IsForReadable given) ⊎ (((status ≡ 1) × HasReason given) ⊎ (status ≡ 5))

pub settled : (old new : Option Text) (status : ℕ) → (status ≤ 6) × (¬ (status ≡ 2)) → ¬ (status ≡ 3) → ¬ (status ≡ 4)
    → (status ≡ 6 → IfSome old (Overruns new))
    → ((status ≡ 0) ⊎ (status ≡ 1) → IfSome old (λ given. (status ≡ 0) ↔ IsForReadable given))
    → ((status ≡ 0) ⊎ (status ≡ 1) → IfSome old (λ given. (status ≡ 1) ↔ HasReason given))
    → IfSome old (λ given. length given ≤ limit → IsSettled status given)
settled None new status known read written over reports refuses = tt
settled (Some given) new status known read written over reports refuses = λ few.
    elim (cases_eq status 0) [
      | inl e ↦ inl (e, (reports (inl e)).0 e)
      | inr zero ↦ elim (cases_eq status 1) [
        | inl e ↦ inr (inl (e, (refuses (inr e)).0 e))
        | inr one ↦ elim (cases_eq status 6) [
          | inl e ↦ absurd (below_irrefl limit (omega (arith, few, (over e).beyond)))
          | inr six ↦ inr (inr (omega (arith, known.0, known.1, read, written, zero, one, six)))
        ]
      ]
    ]

module _ (old new : Option Text) (status : ℕ) (known : (status ≤ 6) × (¬ (status ≡ 2))) (read : ¬ (status ≡ 3)) (written : ¬ (status ≡ 4))
    (over : status ≡ 6 → IfSome old (Overruns new))
    (reports : (status ≡ 0) ⊎ (status ≡ 1) → IfSome old (λ given. (status ≡ 0) ↔ IsForReadable given))
    (refuses : (status ≡ 0) ⊎ (status ≡ 1) → IfSome old (λ given. (status ≡ 1) ↔ HasReason given)) where
  pub completes_by : IfSome old (λ given. length given ≤ limit → ¬ (HasReason given) → (status ≡ 0) ⊎ (status ≡ 5))
  completes_by = IfSome_then old (settled old new status known read written over reports refuses) (λ given settles few none.
      elim (settles few) [ inl p ↦ inl p.0 | inr q ↦ elim q [ inl p ↦ absurd (none p.1) | inr e ↦ inr e ] ])

  pub refuses_by : IfSome old (λ given. length given ≤ limit → HasReason given → (status ≡ 1) ⊎ (status ≡ 5))
  refuses_by = IfSome_then old (settled old new status known read written over reports refuses) (λ given settles few reason.
      elim (settles few) [ inl p ↦ absurd (readable_has_no_reason given p.1 reason) | inr q ↦ elim q [ inl p ↦ inl p.0 | inr e ↦ inr e ] ])
