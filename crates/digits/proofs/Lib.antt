mod WholeTable
