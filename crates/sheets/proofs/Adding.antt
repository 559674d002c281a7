-- Lines that are added to a text one by one.
use Rattle.std.proofs.Common.{◌≡◌, ℕ, List, [], ◌∷◌, ◌++◌, ℤ, ◌⊎◌, Bool, true, false, cond, refl, sym, ap, ◌∙◌, inl, inr}
use Rattle.std.specs.Str.{IsUtf8}
use Rattle.std.proofs.lemmas.Str.{IsUtf8-append}
use Rattle.entries.specs.declared.types.HeadCall.{HeadCall}
use Rattle.faults.specs.declared.texts.TheConstants.{NEWLINE}
use Rattle.fields.specs.Parts.{ended}
use Rattle.rules.specs.Answers.{Answer}
use Rattle.scenario.proofs.Rendered.{ended-append}
use Rattle.sheets.specs.Rows.{rows_of}

-- no row is left where the calls end, or the answers
pub no_row_left : (calls : List HeadCall) (answers : List (Answer ℤ)) → (calls ≡ []) ⊎ (answers ≡ []) → rows_of calls answers ≡ []
no_row_left [] answers over = refl
no_row_left (k ∷ calls) [] over = refl
no_row_left (k ∷ calls) (x ∷ answers) (inl none) = cc
no_row_left (k ∷ calls) (x ∷ answers) (inr none) = cc

-- the last lines are added
pub end_added : (before after : List ℕ) (lines more : List (List ℕ)) → before ≡ ended NEWLINE lines → after ≡ before ++ ended NEWLINE more → after ≡ ended NEWLINE (lines ++ more)
end_added before after lines more has added = added ∙ ap (λ b. b ++ ended NEWLINE more) has ∙ sym (ended-append lines more)

-- what is added to a text leaves it a text, and so does a failure to add it
pub still_text : (added : Bool) (old more : List ℕ) → IsUtf8 old → IsUtf8 more → IsUtf8 (cond added (old ++ more) old)
still_text true old more a b = IsUtf8-append old more a b
still_text false old more a b = a
