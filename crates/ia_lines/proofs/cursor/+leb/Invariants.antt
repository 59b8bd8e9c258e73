use Rattle.ia_lines.proofs.cursor.+leb.Given as goal

abbrev pub decreases-leb : goal.decreases-leb
decreases-leb l = l.most
