mod HandedOn
