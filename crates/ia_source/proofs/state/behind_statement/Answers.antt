use Rattle.std.proofs.Common.{rules}
use Rattle.ia_source.proofs.state.behind_statement.Goals as goal

pub returns-in-Directive-Section : goal.returns-in-Directive-Section
returns-in-Directive-Section c scope = let e = c.with_section.ensures scope in search (rules, e)

pub returns-in-Directive-Org : goal.returns-in-Directive-Org
returns-in-Directive-Org c scope = let e = c.with_flags.ensures scope in search (rules, e)

pub returns-in-Directive-Db : goal.returns-in-Directive-Db
returns-in-Directive-Db c scope = let e = c.with_flags-in-Directive-Db.ensures scope in search (rules, e)

pub returns-in-Directive-Dd : goal.returns-in-Directive-Dd
returns-in-Directive-Dd c scope = let e = c.with_flags-in-Directive-Dd.ensures scope in search (rules, e)

pub returns-in-Directive-Resb : goal.returns-in-Directive-Resb
returns-in-Directive-Resb c scope = let e = c.with_flags-in-Directive-Resb.ensures scope in search (rules, e)

pub returns-in-Directive-Align : goal.returns-in-Directive-Align
returns-in-Directive-Align c scope = let e = c.with_flags-in-Directive-Align.ensures scope in search (rules, e)

pub returns-in-Code : goal.returns-in-Code
returns-in-Code c scope = let e = c.with_flags-in-Code.ensures scope in search (rules, e)

pub returns-in-Directive-Equ : goal.returns-in-Directive-Equ
returns-in-Directive-Equ c scope = let e = c.with_equ.ensures scope in search (rules, e)
