-- All claims as one type. `proofs/ProvedClaims.antt` has its one member, so that each claim is proved as it is stated here, or the gate fails.
use Rattle.std.specs.Prelude.{true, ◌≡◌}
use Rattle.isolation.specs.DomainRule.{DomainRule}
use Rattle.examples.specs.Example.{all_hold}
use Rattle.examples.specs.Table.{examples}
use Rattle.claims.specs.Colours.{ColourClaims}
use Rattle.claims.specs.Histories.{HistoryClaims}
use Rattle.claims.specs.EveryCall.{EveryCallClaims}
use Rattle.claims.specs.Looks.{LookClaims}
use Rattle.claims.specs.EvenUse.{EvenUseClaims}
use Rattle.claims.specs.PageOrder.{PageOrderClaims}
use Rattle.claims.specs.Quotas.{QuotaClaims}
use Rattle.claims.specs.TakingBack.{TakingBackClaims}
use Rattle.claims.specs.Accounts.{AccountClaims}
use Rattle.claims.specs.OnePass.{OnePassClaims}
use Rattle.claims.specs.Times.{SupplyClaims, TimeClaims}
use Rattle.claims.specs.RowTimes.{RowTimeClaims}
use Rattle.claims.specs.Reload.{ReloadClaims}
use Rattle.claims.specs.Rounds.{RoundClaims}
use Rattle.claims.specs.Interface.{InterfaceClaims}

pub record Claims : Type 0 where
  -- Document 01, "Colours of the cache", and document 004, "Address Bleaching".
  pub colours : ColourClaims
  -- Demand 3 of document 01, the domain rule: `isolation/specs/DomainRule.antt` states it in one page.
  pub domain_rule : DomainRule
  -- What else holds after any history.
  pub histories : HistoryClaims
  -- What holds of every call, on any board and table, and of every refusal.
  pub every_call : EveryCallClaims
  -- The rule is not vacuous: histories of which its sides are true, and others of which they are false.
  pub looks : LookClaims
  -- Which free frame is chosen, and that a domain so uses its colours evenly: document 02, No. 7.
  pub even_use : EvenUseClaims
  -- The order of the moves of a recolouring, and what its list holds: document 02, No. 4.
  pub page_order : PageOrderClaims
  -- What holds of quotas: document 02, No. 6.
  pub quotas : QuotaClaims
  -- Taking a recolouring back: document 02, No. 10.
  pub taking_back : TakingBackClaims
  -- Frames accounted for: document 02, No. 14.
  pub accounts : AccountClaims
  -- A fault goes over the table once: document 02, No. 2.
  pub one_pass : OnePassClaims
  -- The supply of a periodic resource, and what a planner relies on.
  pub supply : SupplyClaims
  pub times : TimeClaims
  -- The same of the rows of a plan, and of the lists that admission leaves.
  pub row_times : RowTimeClaims
  -- The colours that an arrival reloads: document 02, No. 3.
  pub reload : ReloadClaims
  -- How many rounds the search for a time can take: document 02, No. 9.
  pub rounds : RoundClaims
  -- Document 01's examples that are marked m, those of document 02, and the worked examples of document 004: `examples/specs/Table.antt` lists them.
  pub examples_hold : all_hold examples ≡ true
  -- What the C interface and the program add.
  pub interface : InterfaceClaims
